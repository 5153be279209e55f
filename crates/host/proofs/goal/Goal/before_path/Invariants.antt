use Rattle.std.proofs.Common.{◌+◌, ◌*◌, ◌≤◌, length}
use Rattle.std.specs.Slice.Iter.{split_rest, split_done, rsplit_parts}
use Rattle.host.specs.Paths.{segments}
use Rattle.host.proofs.Splitting.{left}
use Rattle.host.proofs.Backwards.{Gone, bytes_left}
use Rattle.host.proofs.goal.Goal.before_path.Given as goal

abbrev pub invariant-loop-part : goal.invariant-loop-part
invariant-loop-part l =
    let rest = left (split_done (rsplit_parts l.part-iterator)) (split_rest (rsplit_parts l.part-iterator)) in
    record {
      can : (goal.iterator-loop-part).can_next l.part-iterator;
      finite : (goal.iterator-loop-part).is_finite l.part-iterator;
      gone : Gone l.path l.initial.goal (segments rest) l.goal;
      fits : 2 * l.goal.extra + bytes_left rest ≤ 2 * l.initial.goal.extra + length l.path;
    }
