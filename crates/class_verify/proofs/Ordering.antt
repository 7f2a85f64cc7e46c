-- Fitting is an order.
use Rattle.std.proofs.Common.{◌≡◌, Bool, true, false, ◌&&◌, List, [], ◌∷◌, ◌++◌, refl}
use Rattle.jvm_tables.proofs.Rows.{both}
use Rattle.class_verify.specs.declared.kinds.Kind.{Kind}
use Rattle.class_verify.specs.declared.kinds.Kind.TheVariants as kinds
use Rattle.class_verify.specs.Kinds.{is_top, fits, all_fit}
use Rattle.class_verify.specs.LawsOfShapes.{FitsThrough}
use Rattle.class_verify.proofs.Safe.{kind_fits}

pub also : (a b : Bool) → a ≡ true → b ≡ true → (a && b) ≡ true
also true b e f = f
also false b e f = cc

-- what fits a kind that isn't Top is that kind
pub exact : (a k : Kind) → is_top k ≡ false → fits a k ≡ true → a ≡ k
exact a kinds.Top t e = cc
exact kinds.Int kinds.Int t e = refl
exact kinds.Top kinds.Int t e = cc
exact kinds.Long kinds.Int t e = cc
exact kinds.Reference kinds.Int t e = cc
exact kinds.Int kinds.Long t e = cc
exact kinds.Top kinds.Long t e = cc
exact kinds.Long kinds.Long t e = refl
exact kinds.Reference kinds.Long t e = cc
exact kinds.Int kinds.Reference t e = cc
exact kinds.Top kinds.Reference t e = cc
exact kinds.Long kinds.Reference t e = cc
exact kinds.Reference kinds.Reference t e = refl

fits_through : (a b c : Kind) → fits a b ≡ true → fits b c ≡ true → fits a c ≡ true
fits_through a b kinds.Top e f = refl
fits_through a kinds.Top kinds.Int e f = cc
fits_through a kinds.Int kinds.Int e f = e
fits_through a kinds.Long kinds.Int e f = cc
fits_through a kinds.Reference kinds.Int e f = cc
fits_through a kinds.Top kinds.Long e f = cc
fits_through a kinds.Int kinds.Long e f = cc
fits_through a kinds.Long kinds.Long e f = e
fits_through a kinds.Reference kinds.Long e f = cc
fits_through a kinds.Top kinds.Reference e f = cc
fits_through a kinds.Int kinds.Reference e f = cc
fits_through a kinds.Long kinds.Reference e f = cc
fits_through a kinds.Reference kinds.Reference e f = e

-- what fits a list that fits another fits that one
pub all_through : (xs ys zs : List Kind) → all_fit xs ys ≡ true → all_fit ys zs ≡ true → all_fit xs zs ≡ true
all_through [] [] zs e f = f
all_through [] (y ∷ ys) zs e f = cc
all_through (x ∷ xs) [] zs e f = cc
all_through (x ∷ xs) (y ∷ ys) [] e f = cc
all_through (x ∷ xs) (y ∷ ys) (z ∷ zs) e f =
    let p : (fits x y ≡ true) × (all_fit xs ys ≡ true) = both _ _ e in
    let q : (fits y z ≡ true) × (all_fit ys zs ≡ true) = both _ _ f in
    also (fits x z) (all_fit xs zs) (fits_through x y z p.0 q.0) (all_through xs ys zs p.1 q.1)

pub fits_through_each : FitsThrough
fits_through_each a b c e f =
    let p : (all_fit a.stack b.stack ≡ true) × (all_fit a.locals b.locals ≡ true) = both _ _ e in
    let q : (all_fit b.stack c.stack ≡ true) × (all_fit b.locals c.locals ≡ true) = both _ _ f in
    also (all_fit a.stack c.stack) (all_fit a.locals c.locals) (all_through a.stack b.stack c.stack p.0 q.0) (all_through a.locals b.locals c.locals p.1 q.1)

-- the same slots before both
pub prefix_fits : (g x y : List Kind) → all_fit x y ≡ true → all_fit (g ++ x) (g ++ y) ≡ true
prefix_fits [] x y e = e
prefix_fits (k ∷ g) x y e = also (fits k k) (all_fit (g ++ x) (g ++ y)) (kind_fits k) (prefix_fits g x y e)
