use Rattle.std.proofs.Common.{◌≡◌, ℕ, List, ◌++◌, ◌∷◌, ◌+◌, [], take, sym, ap, ◌∙◌, refl}
use Rattle.std.proofs.lemmas.Bool.{iff_false}
use Rattle.std.proofs.lemmas.List.{take_more, take_all}
use Rattle.out_store.proofs.OpeningLaws.{loose_more, loose_same, loose_at}
use Rattle.out_store.proofs.opening.loose_names.Goals as goal
use Rattle.out_store.proofs.opening.loose_names.Goals.{then-branch+in_ok-copy+in_ok-push, else-branch}

pub loop-name-preserved : goal.loop-name-preserved
loop-name-preserved c =
    let seen : List (List ℕ) = take c.loop-name.name-index c.args.listed.now in
    let upto : take (c.loop-name.name-index + 1) c.args.listed.now ≡ seen ++ c.name-item.result ∷ [] =
    take_more c.args.listed.now c.loop-name.name-index c.name-item.result c.loop-name-test.true ∙ ap (λ (y : List ℕ). seen ++ y ∷ []) (sym c.name-item.is) in
    elim c.if-branch.branch [
      | then-branch+in_ok-copy+in_ok-push w ↦
          loose_at c.args.numbers.now (seen ++ c.name-item.result ∷ []) _ (c.loop-name.gone.items ++ c.name-item.result ∷ []) _ upto
          (ap (λ v. v.items) w.gone-is ∙ w.in_ok-push.ensures.items ∙ ap (λ (n : List ℕ). c.loop-name.gone.items ++ n ∷ []) w.in_ok-copy.ensures)
          (loose_more c.args.numbers.now seen c.loop-name.gone.items c.name-item.result c.loop-name.invariant (c.in_ok-is_loose.ensures.0 w.if-branch.true))
      | else-branch w ↦
          loose_at c.args.numbers.now (seen ++ c.name-item.result ∷ []) _ c.loop-name.gone.items _ upto (ap (λ v. v.items) w.gone-is)
          (loose_same c.args.numbers.now seen c.loop-name.gone.items c.name-item.result c.loop-name.invariant (iff_false c.in_ok-is_loose.ensures w.if-branch.false))
    ]

pub returns : goal.returns
returns c =
    loose_at c.args.numbers.now (take c.loop-name.name-index c.args.listed.now) _ c.loop-name.gone.items _ (sym (take_all c.loop-name.name-index c.args.listed.now c.loop-name-test.false)) refl c.loop-name.invariant
