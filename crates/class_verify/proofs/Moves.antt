-- What an instruction leaves of a stack that fits another fits what it leaves of that one.
use Rattle.std.proofs.Common.{◌≡◌, Bool, true, false, cond, List, ◌++◌, reverse, Option, Some, None, refl, ap, ◌∙◌, subst}
use Rattle.std.specs.Prelude.{option_and_then, option_map}
use Rattle.jvm_tables.specs.declared.code.Instr.{Instr}
use Rattle.jvm_tables.specs.declared.instruction.Operation.{Operation}
use Rattle.jvm_tables.specs.declared.instruction.Operation.TheVariants as operations
use Rattle.jvm_tables.specs.declared.instruction.OpRow.{OpRow}
use Rattle.class_model.specs.declared.class_file.Class.{Class}
use Rattle.class_verify.specs.declared.kinds.Kind.{Kind}
use Rattle.class_verify.specs.declared.stack.Width.{Width}
use Rattle.class_verify.specs.declared.stack.Width.TheVariants as widths
use Rattle.class_code.specs.Constants.{Use, use_of}
use Rattle.class_verify.specs.Effects.{is_slots, used, stack_after}
use Rattle.class_verify.specs.Kinds.{all_fit}
use Rattle.class_verify.specs.Pairs.{is_paired_stack}
use Rattle.class_verify.specs.Stacks.{below_values, with_values, group, without, repeated, swapped, moved}
use Rattle.class_verify.proofs.Ordering.{prefix_fits}
use Rattle.class_verify.proofs.PairedStacks.{Matched, values_below, values_put, values_paired, Grouped, grouped}

abbrev Slots : Type 0
Slots = List Kind × List Kind

without_matched : (w : Width) (s t after : List Kind) → all_fit s t ≡ true → is_paired_stack s ≡ true → without w t ≡ Some after → Matched (without w s) after
without_matched w s t after f p e = by_group (group w t) refl e
  where
    by_group : (found : Option Slots) → group w t ≡ found → option_map (λ (x : Slots). x.1) found ≡ Some after → Matched (without w s) after
    by_group None g m = cc
    by_group (Some upper) g m =
        let same : upper.1 ≡ after = cc in
        let own : Grouped w s upper.0 upper.1 = grouped w s t upper f p g in
        record { stack = own.others; is = ap (option_map (λ (x : Slots). x.1)) own.is; fits = subst (λ r. all_fit own.others r ≡ true) same own.fits; paired = own.paired }

repeated_matched : (w u : Width) (s t after : List Kind) → all_fit s t ≡ true → is_paired_stack s ≡ true → repeated w u t ≡ Some after → Matched (repeated w u s) after
repeated_matched w u s t after f p e = by_upper (group w t) refl e
  where
    by_lower : (upper : Slots) (own : Grouped w s upper.0 upper.1) (found : Option Slots) → group u upper.1 ≡ found
        → option_map (λ (lower : Slots). upper.0 ++ (lower.0 ++ (upper.0 ++ lower.1))) found ≡ Some after → Matched (repeated w u s) after
    by_lower upper own None g m = cc
    by_lower upper own (Some lower) g m =
        let same : upper.0 ++ (lower.0 ++ (upper.0 ++ lower.1)) ≡ after = cc in
        let under : Grouped u own.others lower.0 lower.1 = grouped u own.others upper.1 lower own.fits own.paired g in
        record {
          stack = upper.0 ++ (lower.0 ++ (upper.0 ++ under.others));
          is = ap (option_and_then (λ (x : Slots). option_map (λ (y : Slots). x.0 ++ (y.0 ++ (x.0 ++ y.1))) (group u x.1))) own.is
              ∙ ap (option_map (λ (y : Slots). upper.0 ++ (y.0 ++ (upper.0 ++ y.1)))) under.is;
          fits = subst (λ r. all_fit (upper.0 ++ (lower.0 ++ (upper.0 ++ under.others))) r ≡ true) same
              (prefix_fits upper.0 (lower.0 ++ (upper.0 ++ under.others)) (lower.0 ++ (upper.0 ++ lower.1))
              (prefix_fits lower.0 (upper.0 ++ under.others) (upper.0 ++ lower.1) (prefix_fits upper.0 under.others lower.1 under.fits)));
          paired = own.puts (lower.0 ++ (upper.0 ++ under.others)) (under.puts (upper.0 ++ under.others) (own.puts under.others under.paired));
        }

    by_upper : (found : Option Slots) → group w t ≡ found
        → option_and_then (λ (x : Slots). option_map (λ (y : Slots). x.0 ++ (y.0 ++ (x.0 ++ y.1))) (group u x.1)) found ≡ Some after → Matched (repeated w u s) after
    by_upper None g m = cc
    by_upper (Some upper) g m = by_lower upper (grouped w s t upper f p g) (group u upper.1) refl m

swapped_matched : (s t after : List Kind) → all_fit s t ≡ true → is_paired_stack s ≡ true → swapped t ≡ Some after → Matched (swapped s) after
swapped_matched s t after f p e = by_upper (group widths.One t) refl e
  where
    by_lower : (upper : Slots) (own : Grouped widths.One s upper.0 upper.1) (found : Option Slots) → group widths.One upper.1 ≡ found
        → option_map (λ (lower : Slots). lower.0 ++ (upper.0 ++ lower.1)) found ≡ Some after → Matched (swapped s) after
    by_lower upper own None g m = cc
    by_lower upper own (Some lower) g m =
        let same : lower.0 ++ (upper.0 ++ lower.1) ≡ after = cc in
        let under : Grouped widths.One own.others lower.0 lower.1 = grouped widths.One own.others upper.1 lower own.fits own.paired g in
        record {
          stack = lower.0 ++ (upper.0 ++ under.others);
          is = ap (option_and_then (λ (x : Slots). option_map (λ (y : Slots). y.0 ++ (x.0 ++ y.1)) (group widths.One x.1))) own.is
              ∙ ap (option_map (λ (y : Slots). y.0 ++ (upper.0 ++ y.1))) under.is;
          fits = subst (λ r. all_fit (lower.0 ++ (upper.0 ++ under.others)) r ≡ true) same
              (prefix_fits lower.0 (upper.0 ++ under.others) (upper.0 ++ lower.1) (prefix_fits upper.0 under.others lower.1 under.fits));
          paired = under.puts (upper.0 ++ under.others) (own.puts under.others under.paired);
        }

    by_upper : (found : Option Slots) → group widths.One t ≡ found
        → option_and_then (λ (x : Slots). option_map (λ (y : Slots). y.0 ++ (x.0 ++ y.1)) (group widths.One x.1)) found ≡ Some after → Matched (swapped s) after
    by_upper None g m = cc
    by_upper (Some upper) g m = by_lower upper (grouped widths.One s t upper f p g) (group widths.One upper.1) refl m

moved_matched : (op : Operation) (s t after : List Kind) → all_fit s t ≡ true → is_paired_stack s ≡ true → moved op t ≡ Some after → Matched (moved op s) after
moved_matched operations.Pop s t after f p e = without_matched widths.One s t after f p e
moved_matched operations.Pop2 s t after f p e = without_matched widths.Two s t after f p e
moved_matched operations.Dup s t after f p e = repeated_matched widths.One widths.Zero s t after f p e
moved_matched operations.DupX1 s t after f p e = repeated_matched widths.One widths.One s t after f p e
moved_matched operations.DupX2 s t after f p e = repeated_matched widths.One widths.Two s t after f p e
moved_matched operations.Dup2 s t after f p e = repeated_matched widths.Two widths.Zero s t after f p e
moved_matched operations.Dup2X1 s t after f p e = repeated_matched widths.Two widths.One s t after f p e
moved_matched operations.Dup2X2 s t after f p e = repeated_matched widths.Two widths.Two s t after f p e
moved_matched operations.Swap s t after f p e = swapped_matched s t after f p e
moved_matched _ s t after f p e = cc

used_matched : (o : Option Use) (s t after : List Kind) → all_fit s t ≡ true → is_paired_stack s ≡ true → used o t ≡ Some after → Matched (used o s) after
used_matched None s t after f p e = cc
used_matched (Some values) s t after f p e = by_rest (below_values (reverse values.takes) t) refl e
  where
    by_rest : (found : Option (List Kind)) → below_values (reverse values.takes) t ≡ found → option_map (with_values values.gives) found ≡ Some after → Matched (used (Some values) s) after
    by_rest None b m = cc
    by_rest (Some rest) b m =
        let same : with_values values.gives rest ≡ after = cc in
        let own : Matched (below_values (reverse values.takes) s) rest = values_below (reverse values.takes) s t rest f p b in
        record {
          stack = with_values values.gives own.stack;
          is = ap (option_map (with_values values.gives)) own.is;
          fits = subst (λ r. all_fit (with_values values.gives own.stack) r ≡ true) same (values_put values.gives own.stack rest own.fits);
          paired = values_paired values.gives own.stack own.paired;
        }

pub stack_matched : (class : Class) (row : OpRow) (instr : Instr) (s t after : List Kind) → all_fit s t ≡ true → is_paired_stack s ≡ true
    → stack_after class row instr t ≡ Some after → Matched (stack_after class row instr s) after
unfolding stack_after
stack_matched class row instr s t after f p e = by_slots (is_slots row.takes) e
  where
    by_slots : (b : Bool) → cond b (moved row.operation t) (used (use_of class row instr) t) ≡ Some after
        → Matched (cond b (moved row.operation s) (used (use_of class row instr) s)) after
    by_slots true m = moved_matched row.operation s t after f p m
    by_slots false m = used_matched (use_of class row instr) s t after f p m
