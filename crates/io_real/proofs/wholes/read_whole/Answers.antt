use Rattle.std.proofs.Common.{◌≡◌, IfSome, ℕ, ◌<◌, List, [], ◌++◌, length, take, arith}
use Rattle.std.specs.Prelude.{Option, None, Some}
use Rattle.std.specs.Option.{option_map}
use Rattle.std.proofs.lemmas.List.{take_all}
use Rattle.std.proofs.lemmas.Grind.{common_steps}
use Rattle.io_real.proofs.wholes.read_whole.Goals as goal

-- fewer bytes than were asked for are all that there were
whole : (limit : ℕ) (left : Option (List ℕ)) (first items result : List ℕ) → first ≡ [] → result ≡ items → IfSome (option_map (take limit) left) (λ xs. items ≡ first ++ xs) → length items < limit → IfSome left (λ xs. result ≡ xs)
whole limit None first items result empty same told few = tt
whole limit (Some xs) first items result empty same told few = grind (arith, common_steps, take_all limit xs, empty, same, told, few)

-- src/wholes.rt:14:1
pub returns-in-Ok-clause-all : goal.returns-in-Ok-clause-all
returns-in-Ok-clause-all g c = whole c.take.result.limit (g.I.Read.remaining c.args.input) _ _ _ c.new-items.ensures.items c.from_vec.ensures (rw c.take.ensures.inner at c.in-Ok.ensures.bytes) (omega (arith, c.take.ensures.limit, c.if-len-le-MAX_FILE_LEN.true, c.len.ensures))
