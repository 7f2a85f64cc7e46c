-- The tables by pc: where instructions begin, and where frames stand.
use Rattle.std.proofs.Common.{◌≡◌, ℕ, zero, suc, ◌+◌, ◌<◌, Bool, true, false, ◌||◌, ◌==◌, cond, List, ◌∷◌, length, drop, get_or, set, replicate, Option, Some, None, refl, sym, ap, ◌∙◌, inl, inr, arith}
use Rattle.std.specs.Prelude.{nat_lt, find}
use Rattle.std.proofs.Math.ListN.{length-set}
use Rattle.std.proofs.lemmas.Bool.{cases_eq, cases_lt, eq-eqb, ne_eqb, le-ltb, lt-ltb}
use Rattle.std.proofs.lemmas.List.{drop_more, get_or_past, drop_all, length-replicate, get_or-replicate, get_or-set_same, get_or-set_other}
use Rattle.std.proofs.lemmas.Option.{slice_get_read}
use Rattle.class_verify.specs.declared.frames.Written.{Written}
use Rattle.class_verify.specs.Frames.{frame_at}
use Rattle.class_verify.specs.Places.{next_place, leads_to, begins}
use Rattle.class_verify.specs.Ready.{frame_of}

or_false : (b : Bool) → (b || false) ≡ b
or_false true = refl
or_false false = refl

-- from no instruction none is reached
pub leads_nowhere : (code : List ℕ) (most q : ℕ) → leads_to code most None q ≡ false
unfolding leads_to
leads_nowhere code zero q = refl
leads_nowhere code (suc most) q = refl

pub leads_no_further : (code : List ℕ) (at : Option ℕ) (q : ℕ) → leads_to code zero at q ≡ false
unfolding leads_to
leads_no_further code at q = refl

-- what the marks say together with what is still reached
abbrev pub Told : List ℕ → List Bool → ℕ → Option ℕ → Type 0
Told code marks most next = (q : ℕ) → (get_or marks q false || leads_to code most next q) ≡ begins code q

one_mark : (code : List ℕ) (marks : List Bool) (most pc q : ℕ) → pc < length marks
    → (get_or (set marks pc true) q false || leads_to code most (next_place code pc) q) ≡ (get_or marks q false || leads_to code (suc most) (Some pc) q)
unfolding leads_to
one_mark code marks most pc q h =
    elim (cases_eq q pc) [
      | inl same ↦
          (let marked : get_or (set marks pc true) q false ≡ true = ap (λ k. get_or (set marks pc true) k false) same ∙ get_or-set_same marks pc true false h in
          ap (λ b. b || leads_to code most (next_place code pc) q) marked
          ∙ sym (ap (λ b. get_or marks q false || (b || leads_to code most (next_place code pc) q)) (eq-eqb pc q (sym same)) ∙ or_true (get_or marks q false)))
      | inr other ↦
          (let unmarked : get_or (set marks pc true) q false ≡ get_or marks q false = get_or-set_other marks pc q true false other in
          ap (λ b. b || leads_to code most (next_place code pc) q) unmarked
          ∙ sym (ap (λ b. get_or marks q false || (b || leads_to code most (next_place code pc) q)) (ne_eqb pc q (λ e. other (sym e)))))
    ]
  where
    or_true : (b : Bool) → (b || true) ≡ true
    or_true true = refl
    or_true false = refl

pub mark_step : (code : List ℕ) (marks : List Bool) (most less pc : ℕ) → pc < length marks → most ≡ suc less → Told code marks most (Some pc)
    → Told code (set marks pc true) less (next_place code pc)
mark_step code marks most less pc h e told q =
    one_mark code marks less pc q h ∙ ap (λ n. get_or marks q false || leads_to code n (Some pc) q) (sym e) ∙ told q

unmarked : {A : Type 0} (n pc : ℕ) (d : A) → get_or (replicate n d) pc d ≡ d
unmarked n pc d = elim (cases_lt pc n) [
  | inl h ↦ get_or-replicate n pc d d h
  | inr h ↦ get_or_past (replicate n d) pc d (omega (arith, length-replicate n d))
]

pub mark_start : (code : List ℕ) → Told code (replicate (length code) false) (length code) (Some 0)
unfolding begins
mark_start code q = ap (λ b. b || leads_to code (length code) (Some 0) q) (unmarked (length code) q false)

pub mark_end : (code : List ℕ) (marks : List Bool) (most : ℕ) → Told code marks most None → (q : ℕ) → get_or marks q false ≡ begins code q
mark_end code marks most told q = sym (or_false (get_or marks q false)) ∙ ap (λ b. get_or marks q false || b) (sym (leads_nowhere code most q)) ∙ told q

pub mark_all : (code : List ℕ) (marks : List Bool) (next : Option ℕ) → Told code marks zero next → (q : ℕ) → get_or marks q false ≡ begins code q
mark_all code marks next told q = sym (or_false (get_or marks q false)) ∙ ap (λ b. get_or marks q false || b) (sym (leads_no_further code next q)) ∙ told q

-- what the table says of the frames from a place on
abbrev pub Tabled : List ℕ → List Written → List (Option ℕ) → ℕ → Type 0
Tabled code frames table place = (pc : ℕ) → frame_of frames (get_or table pc None) ≡ frame_at code (drop place frames) pc

table_here : (code : List ℕ) (frames : List Written) (table : List (Option ℕ)) (place pc : ℕ) (w : Written)
    → place < length frames → w ≡ get_or frames place w → length table ≡ length code → Tabled code frames table (suc place) → pc < length code
    → frame_of frames (get_or (set table w.at (Some place)) pc None) ≡ find (λ v. v.at == pc) (drop place frames)
unfolding frame_at
table_here code frames table place pc w h e len told inside =
    elim (cases_eq w.at pc) [
      | inl same ↦
          (let there : get_or (set table w.at (Some place)) pc None ≡ Some place = ap (λ k. get_or (set table w.at (Some place)) k None) (sym same) ∙ get_or-set_same table w.at (Some place) None (omega arith) in
          ap (frame_of frames) there ∙ slice_get_read frames (length frames) place w refl h e
          ∙ sym (ap (find (λ v. v.at == pc)) front ∙ ap (λ b. cond b (Some w) (find (λ v. v.at == pc) (drop (suc place) frames))) (eq-eqb w.at pc same)))
      | inr other ↦
          (let elsewhere : get_or (set table w.at (Some place)) pc None ≡ get_or table pc None = get_or-set_other table w.at pc (Some place) None (λ s. other (sym s)) in
          ap (frame_of frames) elsewhere ∙ told pc ∙ ap (λ b. cond b (find (λ v. v.at == pc) (drop (suc place) frames)) None) (lt-ltb pc (length code) inside)
          ∙ sym (ap (find (λ v. v.at == pc)) front ∙ ap (λ b. cond b (Some w) (find (λ v. v.at == pc) (drop (suc place) frames))) (ne_eqb w.at pc other)))
    ]
  where
    front : drop place frames ≡ w ∷ drop (suc place) frames
    front =
        let more : place + 1 ≡ suc place = omega arith in
        drop_more frames place w h ∙ ap (λ x. x ∷ drop (place + 1) frames) (sym e) ∙ ap (λ n. w ∷ drop n frames) more

pub table_step : (code : List ℕ) (frames : List Written) (table : List (Option ℕ)) (place : ℕ) (w : Written)
    → place < length frames → w ≡ get_or frames place w → length table ≡ length code → Tabled code frames table (suc place)
    → Tabled code frames (set table w.at (Some place)) place
unfolding frame_at
table_step code frames table place w h e len told pc =
    elim (cases_lt pc (length code)) [
      | inl inside ↦
          table_here code frames table place pc w h e len told inside
          ∙ sym (ap (λ b. cond b (find (λ v. v.at == pc) (drop place frames)) None) (lt-ltb pc (length code) inside))
      | inr past ↦
          ap (frame_of frames) (get_or_past (set table w.at (Some place)) pc None (omega (arith, length-set table w.at (Some place))))
          ∙ sym (ap (λ b. cond b (find (λ v. v.at == pc) (drop place frames)) None) (le-ltb pc (length code) past))
    ]

same_both : {A : Type 0} (b : Bool) (x : A) → cond b x x ≡ x
same_both true x = refl
same_both false x = refl

pub table_start : (code : List ℕ) (frames : List Written) → Tabled code frames (replicate (length code) None) (length frames)
unfolding frame_at
table_start code frames pc =
    ap (frame_of frames) (unmarked (length code) pc None)
    ∙ sym (ap (λ ws. cond (nat_lt pc (length code)) (find (λ v. v.at == pc) ws) None) (drop_all (length frames) frames (omega arith)) ∙ same_both (nat_lt pc (length code)) None)
