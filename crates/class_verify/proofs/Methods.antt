-- Frames, one after another.
use Rattle.std.proofs.Common.{◌≡◌, ℕ, ◌+◌, ◌<◌, ◌≤◌, List, [], ◌∷◌, ◌++◌, length, drop, get_or, sym, ap, ◌∙◌, append_assoc}
use Rattle.std.specs.Prelude.{nat_le}
use Rattle.std.proofs.lemmas.List.{drop_more, drop_all, append-nil}
use Rattle.class_model.specs.declared.stack_map.FrameType.{FrameType}
use Rattle.class_model.specs.declared.stack_map.StackFrame.{StackFrame}
use Rattle.class_verify.specs.declared.frames.Limits.{Limits}
use Rattle.class_verify.specs.declared.frames.Written.{Written}
use Rattle.class_verify.specs.Frames.{chopped, types_after, written, frames_from}

pub frames_step : (limits : Limits) (next : ℕ) (before : List FrameType) (frames : List StackFrame) (i : ℕ) (f : StackFrame) (found : List Written)
    → i < length frames → f ≡ get_or frames i f
    → found ++ frames_from limits next before (drop i frames)
    ≡ (found ++ written limits (next + f.delta) (nat_le (chopped f) (length before)) (types_after f before) f.stack ∷ [])
    ++ frames_from limits (next + f.delta + 1) (types_after f before) (drop (i + 1) frames)
unfolding frames_from
frames_step limits next before frames i f found h e =
    ap (λ fs. found ++ frames_from limits next before fs) (drop_more frames i f h ∙ ap (λ g. g ∷ drop (i + 1) frames) (sym e))
    ∙ sym (append_assoc found (written limits (next + f.delta) (nat_le (chopped f) (length before)) (types_after f before) f.stack ∷ [])
    (frames_from limits (next + f.delta + 1) (types_after f before) (drop (i + 1) frames)))

pub frames_end : (limits : Limits) (next : ℕ) (before : List FrameType) (frames : List StackFrame) (i : ℕ) (found : List Written)
    → length frames ≤ i → found ++ frames_from limits next before (drop i frames) ≡ found
unfolding frames_from
frames_end limits next before frames i found h = ap (λ fs. found ++ frames_from limits next before fs) (drop_all i frames h) ∙ append-nil found
