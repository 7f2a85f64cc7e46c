use Rattle.std.proofs.Common.{sym, subst, IsUtf8}
use Rattle.value_text.proofs.PathText.{IsUtf8-IsPath}
use Rattle.value_text.proofs.utf8.path_str.Goals as goal

pub unreachable-requires : goal.unreachable-requires
unreachable-requires c = c.in-Err.ensures.cases.0 (subst IsUtf8 (sym c.as_slice.ensures.bytes) (IsUtf8-IsPath _ c.as_slice.ensures.path))
