-- The ranges of an exception table, met one after another.
use Rattle.std.proofs.Common.{◌≡◌, ℕ, suc, ◌+◌, ◌<◌, ◌≤◌, ◌⊎◌, inl, inr, Bool, true, false, not, ◌&&◌, ◌||◌, cond, List, [], ◌∷◌, ◌++◌, length, get_or, Option, Some, None, refl, sym, ap, ◌∙◌, subst, arith}
use Rattle.std.specs.Prelude.{◌==◌, nat_lt, nat_le, is_none, option_and_then, slice_get, Contains, IsPermutation}
use Rattle.std.specs.Bool.{OnTrue}
use Rattle.std.specs.List.{list_all}
use Rattle.std.proofs.lemmas.Bool.{cases_lt, cases_Bool, eqb-true, lt-ltb, le-ltb, le-leb, lt-leb, leb-true}
use Rattle.std.proofs.lemmas.List.Elements.{Contains-push, Contains-push_cases, Contains-append_left}
use Rattle.std.proofs.lemmas.List.Folds.{list_all-append, list_all_at}
use Rattle.std.proofs.lemmas.List.Sorted.{Contains-permutation, IsPermutation-sym}
use Rattle.std.proofs.lemmas.Option.{slice_get-get_or, slice_get_within, get_or_from_slice_get}
use Rattle.jvm_tables.specs.declared.code.Instr.{Instr}
use Rattle.jvm_tables.specs.declared.instruction.OpRow.{OpRow}
use Rattle.jvm_tables.specs.declared.instruction.ValueKind.{ValueKind}
use Rattle.class_model.specs.declared.attribute_forms.Handler.{Handler}
use Rattle.class_model.specs.declared.class_file.Class.{Class}
use Rattle.class_verify.specs.declared.shape.Shape.{Shape}
use Rattle.class_verify.specs.declared.frames.Written.{Written}
use Rattle.class_verify.specs.declared.kinds.Kind.{Kind}
use Rattle.class_verify.specs.declared.sweep.Sweep.{Sweep}
use Rattle.class_verify.specs.Bodies.{Body}
use Rattle.class_verify.specs.Frames.{frame_at}
use Rattle.class_verify.specs.Sweeps.{is_kept, begins_by, IsSwept, Swept, Kept, IsMet, IsSettled, IsFresh}
use Rattle.class_verify.specs.Effects.{left, limited, locals_after, is_read, with_store, stack_after}
use Rattle.class_code.specs.Control.{covers}
use Rattle.class_code.specs.Operands.{local_of}
use Rattle.class_verify.specs.Targets.{is_caught, is_thrown, catches_in, catches}
use Rattle.class_verify.specs.Kinds.{all_fit}
use Rattle.jvm_tables.proofs.Rows.{both}
use Rattle.class_verify.proofs.Fitting.{and_false}
use Rattle.class_verify.proofs.Ordering.{also, all_through}

abbrev start : Handler → ℕ
start h = h.start

pub list_all_from : {X : Type 0} (p : X → Bool) (xs : List X) → ((x : X) → Contains xs x → p x ≡ true) → list_all p xs ≡ true
list_all_from p [] f = refl
list_all_from p (x ∷ xs) f =
    ap (λ b. b && list_all p xs) (f x (0, omega arith, refl)) ∙ list_all_from p xs (λ y c. f y (suc c.0, omega (arith, c.1), c.2))

pub list_all_fails : {X : Type 0} (p : X → Bool) (xs : List X) (x : X) → Contains xs x → p x ≡ false → list_all p xs ≡ false
list_all_fails p xs x c e = list_all_at p xs c.0 x c.1 (ap p c.2 ∙ e)

pub list_all_each : {X : Type 0} (p : X → Bool) (xs : List X) (x : X) → list_all p xs ≡ true → Contains xs x → p x ≡ true
list_all_each p xs x all c =
    elim (cases_Bool (p x)) [ inl holds ↦ holds | inr fails ↦ (let clash : true ≡ false = sym all ∙ list_all_fails p xs x c fails in cc) ]

pub list_all_one_fails : {X : Type 0} (p : X → Bool) (xs : List X) → list_all p xs ≡ false → (x : X) × Contains xs x × (p x ≡ false)
list_all_one_fails p [] e = cc
list_all_one_fails p (x ∷ xs) e =
    elim (cases_Bool (p x)) [
      | inl holds ↦
          (let rest : (y : _) × Contains xs y × (p y ≡ false) = list_all_one_fails p xs (sym (ap (λ b. b && list_all p xs) holds) ∙ e) in
          (rest.0, (suc rest.1.0, omega (arith, rest.1.1), rest.1.2), rest.2))
      | inr fails ↦ (x, (0, omega arith, refl), fails)
    ]

-- the next range is one of them, and begins by the pc
next_is : (ranges : List Handler) (begun pc : ℕ) (h : Handler) → begins_by pc (slice_get ranges begun) ≡ Some h
    → (slice_get ranges begun ≡ Some h) × (h.start ≤ pc)
next_is ranges begun pc h e = by_option (slice_get ranges begun) refl e
  where
    by_option : (o : Option Handler) → slice_get ranges begun ≡ o → begins_by pc o ≡ Some h → (slice_get ranges begun ≡ Some h) × (h.start ≤ pc)
    by_option None there s = cc
    by_option (Some x) there s =
        elim (cases_Bool (nat_le x.start pc)) [
          | inl holds ↦
              (let one : Some x ≡ Some h = sym (ap (λ b. cond b (Some x) None) holds) ∙ s in
              let same : x ≡ h = cc in
              (there ∙ one, subst (λ (y : Handler). y.start ≤ pc) same (leb-true x.start pc holds)))
          | inr fails ↦ (let none : None ≡ Some h = sym (ap (λ b. cond b (Some x) None) fails) ∙ s in cc)
        ]

one_more : (table ranges : List Handler) (begun : ℕ) (going more : List Handler) (pc : ℕ) (h : Handler) → IsSwept table ranges begun going pc
    → slice_get ranges begun ≡ Some h → ((x : Handler) → Contains going x → Contains more x) → (h.end ≤ pc) ⊎ Contains more h
    → ((x : Handler) → Contains more x → Contains table x × (x.start ≤ pc)) → IsSwept table ranges (begun + 1) more pc
one_more table ranges begun going more pc h s there grows here from =
    let inside : begun < length ranges = slice_get_within ranges begun h there in
    record {
      within = omega arith;
      same = s.same;
      sorted = s.sorted;
      met = λ k d less.
          elim (cases_lt k begun) [
            | inl before ↦ elim (s.met k d before) [ inl ended ↦ inl ended | inr on ↦ inr (grows _ on) ]
            | inr past ↦
                (let last : k ≡ begun = omega arith in
                let P : Handler → Type 0 = λ x. (x.end ≤ pc) ⊎ Contains more x in
                subst (λ n. P (get_or ranges n d)) (sym last) (subst P (sym (get_or_from_slice_get ranges begun h d there)) here))
          ];
      from = from;
    }

in_table : (table ranges : List Handler) (begun : ℕ) (h : Handler) → IsPermutation table ranges → slice_get ranges begun ≡ Some h → Contains table h
in_table table ranges begun h same there =
    Contains-permutation ranges table h (IsPermutation-sym table ranges same)
    (begun, slice_get_within ranges begun h there, get_or_from_slice_get ranges begun h h there)

kept_one : (b c : Bool) → c ≡ true → (b || c) ≡ true
kept_one true c e = refl
kept_one false c e = e

kept_ended : (code : List ℕ) (frames : List Written) (pc : ℕ) (locals : List Kind) (h : Handler) → h.end ≤ pc → is_kept code frames pc locals h ≡ true
kept_ended code frames pc locals h e = ap (λ b. not b || is_caught locals (frame_at code frames h.handler)) (le-ltb pc h.end e)

pub admitted : (body : Body) (s t : Sweep) (pc : ℕ) (locals : List Kind) (h : Handler) → IsSettled body s pc locals
    → begins_by pc (slice_get s.ranges.items s.begun) ≡ Some h → is_caught locals (frame_at body.code body.frames h.handler) ≡ true
    → t.ranges ≡ s.ranges → t.begun ≡ s.begun + 1 → t.going.items ≡ s.going.items ++ h ∷ []
    → Kept body s pc t.known → is_caught t.known (frame_at body.code body.frames h.handler) ≡ true → IsSettled body t pc locals
admitted body s t pc locals h m next caught ranges begun going known too =
    let there : (slice_get s.ranges.items s.begun ≡ Some h) × (h.start ≤ pc) = next_is s.ranges.items s.begun pc h next in
    let more : List Handler = s.going.items ++ h ∷ [] in
    let swept : IsSwept body.table s.ranges.items (s.begun + 1) more pc =
    one_more body.table s.ranges.items s.begun s.going.items more pc h m.swept there.0
    (λ x c. Contains-append_left s.going.items (h ∷ []) x c) (inr (Contains-push s.going.items h))
    (λ x c. elim (Contains-push_cases s.going.items h x c) [
      | inl before ↦ m.swept.from x before
      | inr same ↦ subst (λ (y : Handler). Contains body.table y × (y.start ≤ pc)) same (in_table body.table s.ranges.items s.begun h m.swept.same there.0, there.1)
    ]) in
    let all : (ks : List Kind) → Kept body s pc ks → is_caught ks (frame_at body.code body.frames h.handler) ≡ true → Kept body t pc ks =
    λ ks before here. (let test : Handler → Bool = is_kept body.code body.frames pc ks in
    ap (list_all test) going ∙ list_all-append test s.going.items (h ∷ []) ∙ ap (λ b. b && (test h && true)) before
    ∙ ap (λ b. b && true) (kept_one (not (nat_lt pc h.end)) _ here)) in
    record {
      swept = subst (λ g. IsSwept body.table t.ranges.items t.begun g pc) (sym going)
          (subst (λ n. IsSwept body.table t.ranges.items n more pc) (sym begun)
          (subst (λ r. IsSwept body.table r.items (s.begun + 1) more pc) (sym ranges) swept));
      known = all t.known known too;
      kept = all locals m.kept caught;
    }

pub passed_over : (body : Body) (s t : Sweep) (pc : ℕ) (locals : List Kind) (h : Handler) → IsSettled body s pc locals
    → begins_by pc (slice_get s.ranges.items s.begun) ≡ Some h → h.end ≤ pc
    → t.ranges ≡ s.ranges → t.begun ≡ s.begun + 1 → t.going ≡ s.going → t.known ≡ s.known → IsSettled body t pc locals
passed_over body s t pc locals h m next ended ranges begun going known =
    let there : (slice_get s.ranges.items s.begun ≡ Some h) × (h.start ≤ pc) = next_is s.ranges.items s.begun pc h next in
    let swept : IsSwept body.table s.ranges.items (s.begun + 1) s.going.items pc =
    one_more body.table s.ranges.items s.begun s.going.items s.going.items pc h m.swept there.0 (λ x c. c) (inl ended) m.swept.from in
    record {
      swept = subst (λ g. IsSwept body.table t.ranges.items t.begun g.items pc) (sym going)
          (subst (λ n. IsSwept body.table t.ranges.items n s.going.items pc) (sym begun)
          (subst (λ r. IsSwept body.table r.items (s.begun + 1) s.going.items pc) (sym ranges) swept));
      known = ap (λ g. list_all (is_kept body.code body.frames pc t.known) g.items) going
          ∙ ap (λ ks. list_all (is_kept body.code body.frames pc ks) s.going.items) known ∙ m.known;
      kept = ap (λ g. list_all (is_kept body.code body.frames pc locals) g.items) going ∙ m.kept;
    }

covered : (pc : ℕ) (h : Handler) → h.start ≤ pc → pc < h.end → covers pc h ≡ true
covered pc h a b = ap (λ x. x && nat_lt pc h.end) (le-leb h.start pc a) ∙ lt-ltb pc h.end b

uncaught : (code : List ℕ) (frames : List Written) (pc : ℕ) (locals : List Kind) (h : Handler) → h.start ≤ pc → pc < h.end
    → is_caught locals (frame_at code frames h.handler) ≡ false → catches code frames pc locals h ≡ false
uncaught code frames pc locals h a b fails =
    ap (λ x. not x || is_caught locals (frame_at code frames h.handler)) (covered pc h a b) ∙ fails

pub refused : (body : Body) (s : Sweep) (pc : ℕ) (locals : List Kind) (h : Handler) → IsSettled body s pc locals
    → begins_by pc (slice_get s.ranges.items s.begun) ≡ Some h → pc < h.end → is_caught locals (frame_at body.code body.frames h.handler) ≡ false
    → list_all (catches body.code body.frames pc locals) body.table ≡ false
refused body s pc locals h m next on fails =
    let there : (slice_get s.ranges.items s.begun ≡ Some h) × (h.start ≤ pc) = next_is s.ranges.items s.begun pc h next in
    list_all_fails (catches body.code body.frames pc locals) body.table h (in_table body.table s.ranges.items s.begun h m.swept.same there.0)
    (uncaught body.code body.frames pc locals h there.1 on fails)

-- where one that goes on isn't accepted
pub going_refuses : (body : Body) (s : Sweep) (pc : ℕ) (locals : List Kind) → Swept body s pc
    → list_all (is_kept body.code body.frames pc locals) s.going.items ≡ false → list_all (catches body.code body.frames pc locals) body.table ≡ false
going_refuses body s pc locals m e =
    let one : (h : Handler) × Contains s.going.items h × (is_kept body.code body.frames pc locals h ≡ false) =
    list_all_one_fails (is_kept body.code body.frames pc locals) s.going.items e in
    let from : Contains body.table one.0 × (one.0.start ≤ pc) = m.from one.0 one.1 in
    list_all_fails (catches body.code body.frames pc locals) body.table one.0 from.0
    (elim (cases_lt pc one.0.end) [
      | inl on ↦
          uncaught body.code body.frames pc locals one.0 from.1 on
          (sym (ap (λ b. not b || is_caught locals (frame_at body.code body.frames one.0.handler)) (lt-ltb pc one.0.end on)) ∙ one.2)
      | inr ended ↦ (let clash : true ≡ false = sym (kept_ended body.code body.frames pc locals one.0 ended) ∙ one.2 in cc)
    ])

-- A range that covers the pc is going on, where the next one begins behind it.
is_going : (table ranges : List Handler) (begun : ℕ) (going : List Handler) (pc : ℕ) (h : Handler) → IsSwept table ranges begun going pc
    → begins_by pc (slice_get ranges begun) ≡ None → Contains table h → h.start ≤ pc → pc < h.end → Contains going h
is_going table ranges begun going pc h s none c began on =
    let there : Contains ranges h = Contains-permutation table ranges h s.same c in
    elim (cases_lt there.0 begun) [
      | inl before ↦
          elim (subst (λ (x : Handler). (x.end ≤ pc) ⊎ Contains going x) there.2 (s.met there.0 h before)) [
            | inl ended ↦ absurd (omega arith)
            | inr is ↦ is
          ]
      | inr past ↦
          (let inside : begun < length ranges = omega (arith, there.1) in
          let next : slice_get ranges begun ≡ Some (get_or ranges begun h) = slice_get-get_or ranges begun h inside in
          let rises : start (get_or ranges begun h) ≤ start (get_or ranges there.0 h) = s.sorted begun there.0 h past there.1 in
          let low : start (get_or ranges begun h) ≤ pc = omega (arith, rises, ap start there.2) in
          let clash : None ≡ Some (get_or ranges begun h) = sym none ∙ ap (begins_by pc) next
          ∙ ap (λ b. cond b (Some (get_or ranges begun h)) None) (le-leb (start (get_or ranges begun h)) pc low) in cc)
    ]

caught_by : (code : List ℕ) (frames : List Written) (pc : ℕ) (locals : List Kind) (h : Handler) → (h.start ≤ pc → pc < h.end → is_kept code frames pc locals h ≡ true)
    → catches code frames pc locals h ≡ true
caught_by code frames pc locals h f =
    elim (cases_lt pc h.end) [
      | inl on ↦
          elim (cases_lt pc h.start) [
            | inr began ↦
                (let caught : is_caught locals (frame_at code frames h.handler) ≡ true =
                sym (ap (λ b. not b || is_caught locals (frame_at code frames h.handler)) (lt-ltb pc h.end on)) ∙ f began on in
                kept_one (not (covers pc h)) _ caught)
            | inl later ↦ ap (λ b. not (b && nat_lt pc h.end) || is_caught locals (frame_at code frames h.handler)) (lt-leb h.start pc later)
          ]
      | inr ended ↦
          ap (λ b. not b || is_caught locals (frame_at code frames h.handler))
          (ap (λ x. nat_le h.start pc && x) (le-ltb pc h.end ended) ∙ and_false (nat_le h.start pc))
    ]

pub all_caught : (body : Body) (s : Sweep) (pc : ℕ) (locals : List Kind) → IsSettled body s pc locals
    → begins_by pc (slice_get s.ranges.items s.begun) ≡ None → list_all (catches body.code body.frames pc locals) body.table ≡ true
all_caught body s pc locals m none =
    list_all_from (catches body.code body.frames pc locals) body.table
    (λ h c. caught_by body.code body.frames pc locals h
    (λ began on. list_all_each (is_kept body.code body.frames pc locals) s.going.items h m.kept
    (is_going body.table s.ranges.items s.begun s.going.items pc h m.swept none c began on)))

pub settled_still : (body : Body) (s : Sweep) (pc : ℕ) (locals : List Kind) → IsMet body s pc locals → s.is_settled ≡ true → IsSettled body s pc locals
settled_still body s pc locals m e = record { swept = m.swept; known = m.known; kept = m.kept e }

none_fails : {X : Type 0} (p : X → Bool) (xs : List X) → (length xs == 0) ≡ true → list_all p xs ≡ true
none_fails p [] e = refl
none_fails p (x ∷ xs) e = absurd (omega (arith, eqb-true (length (x ∷ xs)) 0 e))

pub settled_nothing : (body : Body) (s : Sweep) (pc : ℕ) (locals : List Kind) → IsMet body s pc locals → (length s.going.items == 0) ≡ true → IsSettled body s pc locals
settled_nothing body s pc locals m e =
    record { swept = m.swept; known = m.known; kept = none_fails (is_kept body.code body.frames pc locals) s.going.items e }

-- Locals that fit others are accepted where those are.
caught_through : (locals known : List Kind) (w : Option Written) → all_fit locals known ≡ true → is_caught known w ≡ true → is_caught locals w ≡ true
caught_through locals known None f e = e
caught_through locals known (Some w) f e = by_shape w.shape e
  where
    by_shape : (o : Option Shape) → catches_in known o ≡ true → catches_in locals o ≡ true
    by_shape None e = e
    by_shape (Some wanted) e =
        let p : (is_thrown wanted.stack ≡ true) × (all_fit known wanted.locals ≡ true) = both _ _ e in
        also (is_thrown wanted.stack) (all_fit locals wanted.locals) p.0 (all_through locals known wanted.locals f p.1)

or_through : (b : Bool) (locals known : List Kind) (w : Option Written) → all_fit locals known ≡ true → (b || is_caught known w) ≡ true → (b || is_caught locals w) ≡ true
or_through true locals known w f e = refl
or_through false locals known w f e = caught_through locals known w f e

kept_through : (body : Body) (going : List Handler) (pc : ℕ) (locals known : List Kind) → all_fit locals known ≡ true
    → list_all (is_kept body.code body.frames pc known) going ≡ true → list_all (is_kept body.code body.frames pc locals) going ≡ true
kept_through body going pc locals known f k =
    list_all_from (is_kept body.code body.frames pc locals) going
    (λ h c. or_through (not (nat_lt pc h.end)) locals known (frame_at body.code body.frames h.handler) f
    (list_all_each (is_kept body.code body.frames pc known) going h k c))

pub looked : (body : Body) (s : Sweep) (pc : ℕ) (locals : List Kind) → Swept body s pc → all_fit locals s.known ≡ true → Kept body s pc s.known → IsSettled body s pc locals
looked body s pc locals m f k = record { swept = m; known = k; kept = kept_through body s.going.items pc locals s.known f k }

pub settled_by_known : (body : Body) (s : Sweep) (pc : ℕ) (locals : List Kind) → IsMet body s pc locals → all_fit locals s.known ≡ true → IsSettled body s pc locals
settled_by_known body s pc locals m f = looked body s pc locals m.swept f m.known

swept_later : (table ranges : List Handler) (begun : ℕ) (going : List Handler) (pc later : ℕ) → pc ≤ later
    → IsSwept table ranges begun going pc → IsSwept table ranges begun going later
swept_later table ranges begun going pc later le s = record {
  within = s.within;
  same = s.same;
  sorted = s.sorted;
  met = λ k d h. elim (s.met k d h) [ inl ended ↦ inl (omega arith) | inr on ↦ inr on ];
  from = λ h c. (let f : Contains table h × (h.start ≤ pc) = s.from h c in (f.0, omega (arith, f.1)));
}

kept_later : (code : List ℕ) (frames : List Written) (pc later : ℕ) (locals : List Kind) (h : Handler) → pc ≤ later
    → is_kept code frames pc locals h ≡ true → is_kept code frames later locals h ≡ true
kept_later code frames pc later locals h le k =
    elim (cases_lt later h.end) [
      | inl on ↦
          (let before : pc < h.end = omega arith in
          let caught : is_caught locals (frame_at code frames h.handler) ≡ true =
          sym (ap (λ b. not b || is_caught locals (frame_at code frames h.handler)) (lt-ltb pc h.end before)) ∙ k in
          kept_one (not (nat_lt later h.end)) _ caught)
      | inr ended ↦ kept_ended code frames later locals h ended
    ]

-- what is known at an instruction is known at a later one with the same locals
pub met_later : (body : Body) (s : Sweep) (pc later : ℕ) (locals : List Kind) → pc ≤ later → IsMet body s pc locals → IsMet body s later locals
met_later body s pc later locals le m = record {
  swept = swept_later body.table s.ranges.items s.begun s.going.items pc later le m.swept;
  known = all s.known m.known;
  kept = λ e. all locals (m.kept e);
}
  where
    all : (ks : List Kind) → Kept body s pc ks → Kept body s later ks
    all ks k = list_all_from (is_kept body.code body.frames later ks) s.going.items
        (λ h c. kept_later body.code body.frames pc later ks h le (list_all_each (is_kept body.code body.frames pc ks) s.going.items h k c))

-- Nothing is said of the locals any more.
pub unsettled : (body : Body) (s t : Sweep) (pc : ℕ) (locals others : List Kind) → IsMet body s pc locals → t ≡ record s { is_settled = false } → IsMet body t pc others
unsettled body s t pc locals others m e =
    let P : Sweep → Type 0 = λ x. IsMet body x pc others in
    subst P (sym e) (record { swept = m.swept; known = m.known; kept = λ f. (let clash : false ≡ true = f in cc) })

-- An instruction that writes no local leaves the locals as they are.
stored_none : (writes : Option ValueKind) (at : ℕ) (locals others : List Kind) → is_none writes ≡ true → with_store writes at locals ≡ Some others → others ≡ locals
stored_none None at locals others e s = cc
stored_none (Some kind) at locals others e s = cc

read_first : (b : Bool) (o : Option (List Kind)) (others : List Kind) → cond b o None ≡ Some others → o ≡ Some others
read_first true o others e = e
read_first false o others e = cc

the_same : (b : Bool) (shape after : Shape) → cond b (Some shape) None ≡ Some after → shape ≡ after
the_same true shape after e = cc
the_same false shape after e = cc

within_limit : (most : ℕ) (locals stack : List Kind) (after : Shape) → limited most locals stack ≡ Some after → after.locals ≡ locals
within_limit most locals stack after e =
    sym (ap (λ (x : Shape). x.locals) (the_same (nat_le (length stack) most) (record { stack = stack; locals = locals }) after e))

limited_after : (most : ℕ) (locals : List Kind) (stack : Option (List Kind)) (after : Shape) → option_and_then (limited most locals) stack ≡ Some after → after.locals ≡ locals
limited_after most locals None after e = cc
limited_after most locals (Some stack) after e = within_limit most locals stack after e

left_after : (most : ℕ) (locals : Option (List Kind)) (stack : Option (List Kind)) (after : Shape)
    → option_and_then (λ ls. option_and_then (limited most ls) stack) locals ≡ Some after → locals ≡ Some after.locals
left_after most None stack after e = cc
left_after most (Some ls) stack after e = ap Some (sym (limited_after most ls stack after e))

left_locals : (class : Class) (most : ℕ) (row : OpRow) (instr : Instr) (shape after : Shape) → left class most row instr shape ≡ Some after
    → is_none row.writes ≡ true → after.locals ≡ shape.locals
unfolding left locals_after
left_locals class most row instr shape after e none =
    stored_none row.writes (local_of row instr) shape.locals after.locals none
    (read_first (is_read row.reads (local_of row instr) shape.locals) (with_store row.writes (local_of row instr) shape.locals) after.locals
    (left_after most (locals_after row instr shape.locals) (stack_after class row instr shape.stack) after e))

pub follows : (body : Body) (s t : Sweep) (pc place : ℕ) (class : Class) (most : ℕ) (row : OpRow) (instr : Instr) (shape after : Shape) → IsSettled body s pc shape.locals
    → left class most row instr shape ≡ Some after → t ≡ record s { is_settled = is_none row.writes; written = place } → IsMet body t pc after.locals
follows body s t pc place class most row instr shape after m e u =
    let P : Sweep → Type 0 = λ x. IsMet body x pc after.locals in
    subst P (sym u) (record {
      swept = m.swept;
      known = m.known;
      kept = λ f. subst (λ ls. list_all (is_kept body.code body.frames pc ls) s.going.items ≡ true) (sym (left_locals class most row instr shape after e f)) m.kept;
    })

-- Before the first instruction nothing is going on.
pub fresh_met : (body : Body) (s : Sweep) (pc : ℕ) (locals : List Kind) → IsFresh body.table s → IsMet body s pc locals
fresh_met body s pc locals f = record {
  swept = record {
    within = omega (arith, f.begun);
    same = f.same;
    sorted = f.sorted;
    met = λ k d h. absurd (omega (arith, f.begun));
    from = λ h c. absurd (omega (arith, c.1, ap length f.going));
  };
  known = ap (list_all (is_kept body.code body.frames pc s.known)) f.going;
  kept = λ e. ap (list_all (is_kept body.code body.frames pc locals)) f.going;
}

pub next_within : (ranges : List Handler) (begun pc : ℕ) (h : Handler) → begins_by pc (slice_get ranges begun) ≡ Some h → begun < length ranges
next_within ranges begun pc h e = slice_get_within ranges begun h (next_is ranges begun pc h e).0

pub on_true : (b : Bool) (P : Type 0) → P → OnTrue b P
on_true true P p = p
on_true false P p = tt
