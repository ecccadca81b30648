-- What is asked of flows, one after the other.
use Rattle.std.specs.Prelude.{List, Bool}
use Rattle.j39_findings.specs.Found.{sends, serves_all, serves_one}
use Rattle.j39_network.specs.Serving.{serves}
use Rattle.j39_network.specs.declared.plan.flow_plan.FlowPlan.{FlowPlan}
use Rattle.j39_network.specs.declared.plan.group_plan.GroupPlan.{GroupPlan}
use Rattle.j39_line_witnesses.specs.declared.flow_tests.FlowTest.{FlowTest}
use Rattle.j39_line_witnesses.specs.declared.flow_tests.FlowTest.TheVariants.{Sends, Serves, ServesAll, ServesOne}

abbrev pub flow_test : List GroupPlan → FlowTest → FlowPlan → Bool
flow_test groups (Sends group) = sends groups group.now
flow_test groups (Serves request) = serves request.now
flow_test groups (ServesOne request) = serves_one request.now
flow_test groups (ServesAll request) = serves_all request.now
