-- The class as a whole.
use Rattle.std.proofs.Common.{◌≡◌, ℕ, List, [], ◌++◌, None, true, ap, ◌∙◌, append_assoc}
use Rattle.class_model.specs.declared.class_file.Class.{Class}
use Rattle.class_model.specs.Annotations.{IsCounted}
use Rattle.class_model.specs.Attributes.{IsAttributes, in_class}
use Rattle.class_model.specs.Shape.{Shaped, IsField, IsMethod, IsMembers, is_plain_class}
use Rattle.class_model.specs.Spelling as spelling
use Rattle.const_pool.specs.declared.write_fault.WriteFault.{WriteFault}
use Rattle.class_write.specs.ClassText as text
use Rattle.class_write.specs.Misfits as misfits
use Rattle.class_write.specs.Misfits.{misfit}
use Rattle.class_write.specs.Order.{Refuses}
use Rattle.class_write.proofs.Faults.{refuses_here, refuses_later}

pub refused_head : (c : Class) (e : WriteFault) → Refuses e (misfits.head c) → Refuses e (misfit c)
unfolding misfit
refused_head c e refuses = refuses_here e _ _ refuses

pub refused_lists : (c : Class) (e : WriteFault) → misfits.head c ≡ None → Refuses e (misfits.lists_of c) → Refuses e (misfit c)
unfolding misfit
refused_lists c e none refuses = refuses_later e _ _ none refuses

regroup : (a b c p d e f i g m t : List ℕ) → (((a ++ b ++ c) ++ p) ++ (d ++ e ++ f)) ++ (i ++ g ++ m ++ t) ≡ a ++ b ++ c ++ p ++ d ++ e ++ f ++ i ++ g ++ m ++ t
regroup a b c p d e f i g m t = simp append_assoc

pub whole_text : (c : Class) (start one two : List ℕ) → start ≡ [] → one ≡ start ++ text.version c ++ spelling.pool c.pool ++ text.names c → two ≡ one ++ text.lists c → two ≡ spelling.class c
unfolding spelling.class
whole_text c start one two none head lists =
    lists ∙ ap (λ (l : List ℕ). l ++ text.lists c) (head ∙ ap (λ (l : List ℕ). l ++ text.version c ++ spelling.pool c.pool ++ text.names c) none)
    ∙ regroup (spelling.u4 spelling.magic) (spelling.u2 c.minor) (spelling.u2 c.major) (spelling.pool c.pool) (spelling.u2 c.flags) (spelling.u2 c.this_class) (spelling.u2 c.super_class)
    (spelling.counted spelling.u2 c.interfaces) (spelling.counted spelling.member c.fields) (spelling.counted spelling.member c.methods) (spelling.counted spelling.attribute c.attributes)

pub whole_shape : (c : Class) → text.IsHead c → IsCounted (λ index. is_plain_class c.pool index ≡ true) c.interfaces → IsMembers (IsField c.pool) c.pool c.fields
    → IsMembers (IsMethod c.pool) c.pool c.methods → IsAttributes c.pool in_class c.attributes → Shaped c
whole_shape c head interfaces fields methods attributes = record {
  minor = head.minor;
  oldest = head.oldest;
  newest = head.newest;
  pool = head.pool;
  flags = head.flags;
  this_class = head.this_class;
  super_class = head.super_class;
  interfaces = interfaces;
  fields = fields;
  methods = methods;
  attributes = attributes;
}
