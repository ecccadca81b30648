use Rattle.j39_app.proofs.plan_command.write_of_plan.Goals as goal

pub returns-in-Show : goal.returns-in-Show
returns-in-Show g c = rw c.in-Show.is c.show_text.ensures

pub returns-in-Variant : goal.returns-in-Variant
returns-in-Variant g c = rw c.in-Variant.is c.variant_text.ensures

pub returns-in-Check : goal.returns-in-Check
returns-in-Check g c = rw c.in-Check.is c.check_line_text.ensures

pub returns-in-Addresses : goal.returns-in-Addresses
returns-in-Addresses g c = rw c.in-Addresses.is c.addresses_line_text.ensures

pub returns-in-Load : goal.returns-in-Load
returns-in-Load g c = rw c.in-Load.is c.load_line_text.ensures
