use Rattle.std.proofs.Common.{sym, subst, IsUtf8, true≢false}
use Rattle.value_text.proofs.Slashed.{IsUtf8-slashed}
use Rattle.value_text.proofs.encode.slashed.Goals as goal

pub unreachable-requires : goal.unreachable-requires
unreachable-requires c = absurd (true≢false (sym (c.in-Err.ensures.succeeds (subst IsUtf8 (sym c.in_ok-slashed_bytes.ensures) (IsUtf8-slashed c.args.task.now c.utf8.task)))))
