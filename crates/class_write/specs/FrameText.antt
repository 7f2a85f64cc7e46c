-- The text of a frame in two halves (JVMS 4.7.4).
use Rattle.std.specs.Prelude.{ℕ, ◌++◌, ◌==◌, nat_lt, List, if◌then◌else◌}
use Rattle.std.specs.List.{flat_map}
use Rattle.class_model.specs.declared.stack_map.StackFrame.{StackFrame}
use Rattle.class_model.specs.Spelling as spelling

-- the tag, and the delta where it doesn't stand in the tag
abbrev pub head_text : StackFrame → List ℕ
head_text f = if nat_lt f.tag 128 then spelling.u1 f.tag else spelling.u1 f.tag ++ spelling.u2 f.delta

-- the locals and the stack, with their counts in a full frame alone
abbrev pub lists : StackFrame → List ℕ
lists f =
    if f.tag == 255 then spelling.counted spelling.frame_type f.locals ++ spelling.counted spelling.frame_type f.stack
    else flat_map spelling.frame_type f.locals ++ flat_map spelling.frame_type f.stack
