-- Reading a class file (JVMS 4.1, 4.5 and 4.6), with the first bad place.
use Rattle.std.specs.Prelude.{ℕ, Bool, true, false, ◌&&◌, ◌||◌, ◌==◌, nat_le, List, [], length, bytes_eq, unwrap_or, Result, Ok, Err, if◌then◌else◌}
use Rattle.class_model.specs.declared.constant_pool.Pool.{Pool}
use Rattle.class_model.specs.declared.class_file.Class.{Class}
use Rattle.class_model.specs.declared.class_file.Member.{Member}
use Rattle.class_model.specs.ClassNames.{is_unqualified, is_method_name}
use Rattle.class_model.specs.Descriptors.{is_field_descriptor, is_method_descriptor}
use Rattle.class_model.specs.Constants.{text_at, class_at, is_some_that}
use Rattle.class_model.specs.Attributes.{in_class, in_field, in_method}
use Rattle.class_model.specs.Shape.{is_abstract, is_native, is_plain_class, are_same, most_slots, has_code}
use Rattle.class_model.specs.Spelling.{magic}
use Rattle.class_text.specs.Format.{oldest_major, newest_major, object_name}
use Rattle.class_text.specs.Reading.{Fault, bad_magic, bad_major, code_missing, bytes_left, ◌>>=◌, place}
use Rattle.class_text.specs.Readers.{Reader, u2_at, u4_at, index_at, counted_at, counted_after}
use Rattle.class_text.specs.Pool.{pool_at}
use Rattle.class_text.specs.Attributes.{text_or_empty, is_first, attributes_at}

-- no member before has this name and this descriptor
unfoldable pub is_new : Pool → List Member → ℕ → ℕ → Bool
is_new pool before name descriptor =
    is_first (λ m. true) (are_same pool) before (record { flags = 0; name = name; descriptor = descriptor; attributes = [] })

-- the name of a field and of a method
unfoldable pub leads_to_field_name : Pool → ℕ → Bool
leads_to_field_name pool n = is_some_that is_unqualified (text_at pool n)

unfoldable pub leads_to_method_name : Pool → ℕ → Bool
leads_to_method_name pool n = is_some_that is_method_name (text_at pool n)

-- a field's descriptor, of the name that was read, which no field before has
unfoldable pub leads_to_field_type : Pool → List Member → ℕ → ℕ → Bool
leads_to_field_type pool before name n =
    is_some_that is_field_descriptor (text_at pool n) && is_new pool before name n

-- a method's, with the slots that its flags leave
unfoldable pub leads_to_method_type : Pool → List Member → ℕ → ℕ → ℕ → Bool
leads_to_method_type pool before flags name n =
    is_some_that (is_method_descriptor (most_slots flags)) (text_at pool n) && is_new pool before name n

-- Code may not stand on an abstract or native method.
abbrev pub is_barred : ℕ → Bool
is_barred flags = is_abstract flags || is_native flags

unfoldable pub field_at : Pool → List Member → Reader Member
field_at pool before end bytes =
    u2_at end bytes
    >>= (λ flags. index_at (leads_to_field_name pool) end flags.1
    >>= (λ name. index_at (leads_to_field_type pool before name.0) end name.1
    >>= (λ descriptor. attributes_at pool (in_field (text_or_empty pool descriptor.0)) false end descriptor.1
    >>= (λ found. Ok (record { flags = flags.0; name = name.0; descriptor = descriptor.0; attributes = found.0 }, found.1)))))

unfoldable pub method_at : Pool → List Member → Reader Member
method_at pool before end bytes =
    u2_at end bytes
    >>= (λ flags. index_at (leads_to_method_name pool) end flags.1
    >>= (λ name. index_at (leads_to_method_type pool before flags.0 name.0) end name.1
    >>= (λ descriptor. attributes_at pool in_method (is_barred flags.0) end descriptor.1
    >>= (λ found.
    if is_barred flags.0 || has_code found.0 then
    Ok (record { flags = flags.0; name = name.0; descriptor = descriptor.0; attributes = found.0 }, found.1)
    else Err (code_missing (place end bytes))))))

-- the class above a class of a number; none above `java/lang/Object` alone
unfoldable pub leads_to_super : Pool → ℕ → ℕ → Bool
leads_to_super pool this n =
    if n == 0 then bytes_eq (unwrap_or (class_at pool this) []) object_name else is_plain_class pool n

-- the magic, the minor and the major version
unfoldable pub minor_at : Reader ℕ
minor_at end bytes = u4_at end bytes >>= (λ found. if found.0 == magic then u2_at end found.1 else Err bad_magic)

unfoldable pub major_at : Reader ℕ
major_at end bytes =
    u2_at end bytes >>= (λ major. if nat_le oldest_major major.0 && nat_le major.0 newest_major then Ok major else Err (bad_major major.0))

-- what stands behind the pool
unfoldable pub behind_pool_at : ℕ → ℕ → Pool → Reader Class
behind_pool_at minor major pool end bytes =
    u2_at end bytes
    >>= (λ flags. index_at (is_plain_class pool) end flags.1
    >>= (λ this. index_at (leads_to_super pool this.0) end this.1
    >>= (λ super_class. counted_at (index_at (is_plain_class pool)) end super_class.1
    >>= (λ interfaces. counted_after (field_at pool) end interfaces.1
    >>= (λ fields. counted_after (method_at pool) end fields.1
    >>= (λ methods. attributes_at pool in_class false end methods.1
    >>= (λ found. Ok (
      record {
        minor = minor;
        major = major;
        pool = pool;
        flags = flags.0;
        this_class = this.0;
        super_class = super_class.0;
        interfaces = interfaces.0;
        fields = fields.0;
        methods = methods.0;
        attributes = found.0;
      },
      found.1,
    ))))))))

unfoldable pub class_at_front : Reader Class
class_at_front end bytes =
    minor_at end bytes
    >>= (λ minor. major_at end minor.1
    >>= (λ major. pool_at end major.1
    >>= (λ pool. behind_pool_at minor.0 major.0 pool.0 end pool.1)))

-- the class that bytes are, or their first bad place
unfoldable pub class_of : List ℕ → Result Class Fault
class_of bytes =
    class_at_front (length bytes) bytes
    >>= (λ found. if length found.1 == 0 then Ok found.0 else Err (bytes_left (place (length bytes) found.1)))
