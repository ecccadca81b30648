use Rattle.std.proofs.Common.{◌+◌, ◌*◌, arith}
use Rattle.j39_audit.specs.Settings.{moves}
use Rattle.j39_audit.specs.inside.Recalling.{settings_of}
use Rattle.j39_audit.proofs.Knowing.{none_claimed, none_heard, none_named, none_taken}
use Rattle.j39_audit.proofs.known.Known.new.Goals as goal

pub returns : goal.returns
returns c =
    let size = c.in_ok-last.ensures.size in
    let count = c.len-units.ensures in
    let s = settings_of c.args.basis.now in
    record {
      last_size = omega (arith, size, count);
      taken_size = c.in_ok-taken.ensures.size;
      least_size = c.in_ok-least.ensures.size;
      claimed_size = (let rows = c.in_ok-claimed.ensures.size in omega (arith, rows, count));
      last = λ u. none_heard s.part (moves s u) u _ (c.in_ok-last.ensures.none u);
      taken = λ a. none_taken a _ (c.in_ok-taken.ensures.none a);
      least = λ a. none_named a _ (c.in_ok-least.ensures.none a);
      claimed = λ u a. none_claimed u a _ (c.in_ok-claimed.ensures.none (u * 256 + a));
      requests = record { ever = c.new.ensures.ever; newest = c.new.ensures.newest };
      time = c.new.ensures.time;
    }
