-- Reading the frames of a stack map (JVMS 4.7.4).
use Rattle.std.specs.Prelude.{ℕ, ◌-◌, Bool, ◌==◌, nat_lt, List, [], Ok, Err, if◌then◌else◌}
use Rattle.class_model.specs.declared.constant_pool.Pool.{Pool}
use Rattle.class_model.specs.declared.stack_map.StackFrame.{StackFrame}
use Rattle.class_model.specs.declared.stack_map.FrameType.{FrameType}
use Rattle.class_model.specs.Constants.{constant_at, is_some_that, is_class_constant}
use Rattle.class_text.specs.Format.{object_tag, uninitialized_tag, same_locals_1_tag, reserved_tag, same_locals_1_extended_tag, same_extended_tag, append_tag, full_tag}
use Rattle.class_text.specs.Reading.{bad_tag, ◌>>=◌, place}
use Rattle.class_text.specs.Readers.{Reader, u1_at, u2_at, index_at, many_at, counted_at}

-- the number of a class or an array class
unfoldable pub leads_to_class : Pool → ℕ → Bool
leads_to_class pool n = is_some_that is_class_constant (constant_at pool n)

abbrev pub frame_type_of : ℕ → ℕ → FrameType
frame_type_of tag index = record { tag = tag; index = index }

-- what stands behind the tag of a type; the tag's own place names it where it is none
unfoldable pub typed_at : Pool → ℕ → ℕ → Reader FrameType
typed_at pool at tag end bytes =
    if nat_lt tag object_tag then Ok (frame_type_of tag 0, bytes)
    else if tag == object_tag then index_at (leads_to_class pool) end bytes >>= (λ class. Ok (frame_type_of tag class.0, class.1))
    else if tag == uninitialized_tag then u2_at end bytes >>= (λ pc. Ok (frame_type_of tag pc.0, pc.1))
    else Err (bad_tag at tag)

unfoldable pub frame_type_at : Pool → Reader FrameType
frame_type_at pool end bytes = u1_at end bytes >>= (λ tag. typed_at pool (place end bytes) tag.0 end tag.1)

abbrev pub frame_of : ℕ → ℕ → List FrameType → List FrameType → StackFrame
frame_of tag delta locals stack = record { tag = tag; delta = delta; locals = locals; stack = stack }

-- a frame that writes one stack item, and one that writes so many locals
unfoldable pub with_item_at : Pool → ℕ → ℕ → Reader StackFrame
with_item_at pool tag delta end bytes =
    many_at (frame_type_at pool) 1 end bytes >>= (λ stack. Ok (frame_of tag delta [] stack.0, stack.1))

unfoldable pub with_locals_at : Pool → ℕ → ℕ → ℕ → Reader StackFrame
with_locals_at pool tag delta many end bytes =
    many_at (frame_type_at pool) many end bytes >>= (λ locals. Ok (frame_of tag delta locals.0 [], locals.1))

-- a frame that counts its locals and its stack items
unfoldable pub full_at : Pool → ℕ → ℕ → Reader StackFrame
full_at pool tag delta end bytes =
    counted_at (frame_type_at pool) end bytes
    >>= (λ locals. counted_at (frame_type_at pool) end locals.1
    >>= (λ stack. Ok (frame_of tag delta locals.0 stack.0, stack.1)))

-- what stands behind the delta of a frame
unfoldable pub behind_delta_at : Pool → ℕ → ℕ → Reader StackFrame
behind_delta_at pool tag delta end bytes =
    if tag == same_locals_1_extended_tag then with_item_at pool tag delta end bytes
    else if nat_lt tag append_tag then Ok (frame_of tag delta [] [], bytes)
    else if nat_lt tag full_tag then with_locals_at pool tag delta (tag - same_extended_tag) end bytes
    else full_at pool tag delta end bytes

-- what stands behind the tag of a frame
unfoldable pub framed_at : Pool → ℕ → ℕ → Reader StackFrame
framed_at pool at tag end bytes =
    if nat_lt tag same_locals_1_tag then Ok (frame_of tag tag [] [], bytes)
    else if nat_lt tag reserved_tag then with_item_at pool tag (tag - same_locals_1_tag) end bytes
    else if nat_lt tag same_locals_1_extended_tag then Err (bad_tag at tag)
    else u2_at end bytes >>= (λ delta. behind_delta_at pool tag delta.0 end delta.1)

unfoldable pub frame_at : Pool → Reader StackFrame
frame_at pool end bytes = u1_at end bytes >>= (λ tag. framed_at pool (place end bytes) tag.0 end tag.1)
