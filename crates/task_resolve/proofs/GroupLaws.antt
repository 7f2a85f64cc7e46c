-- Where no word is bad, the words between those that are `+` begin with selectors.
use Rattle.std.proofs.Common.{◌≡◌, ℕ, ◌+◌, Bool, true, false, List, [], ◌∷◌, drop, Option, Some, None, IsTrue, cond, refl, sym, ap, subst, ◌∙◌, arith}
use Rattle.std.specs.Prelude.{codes}
use Rattle.std.specs.List.{list_all, slice_split, onto_first}
use Rattle.std.specs.Str.{bytes_eq}
use Rattle.std.proofs.lemmas.Slice.Eq.{bytes_eq-Decides}
use Rattle.std.proofs.lemmas.List.Splits.{slice_split-cons_yes, slice_split-cons_no}
use Rattle.task_model.specs.TaskNames.{is_name_segment}
use Rattle.task_resolve.specs.Options.{defaults, with_workers, by_lead, settings_behind, behind_options, command_words, command_of}
use Rattle.task_resolve.specs.Requests.{groups, is_group, choosing, verb_at}
use Rattle.task_resolve.specs.Segments.{is_segment, is_selector}
use Rattle.task_resolve.specs.Spots.{lead_of, is_plus, start, next, is_complete, after_command}
use Rattle.task_resolve.specs.Verbs.{verb_named, takes_explain, is_here}
use Rattle.task_resolve.specs.Words.{unless, command_cause, lead_cause, content_cause, word_cause, first_bad_from, first_bad}
use Rattle.task_resolve.specs.declared.fault.Why.{Why}
use Rattle.task_resolve.specs.declared.fault.Why.TheVariants.{BadSelector, NotHere, TooLong}
use Rattle.task_resolve.specs.declared.options.Settings.{Settings}
use Rattle.task_resolve.specs.declared.request.Verb.{Verb}
use Rattle.task_resolve.specs.declared.request.Verb.TheVariants.{Show, Run, Resolve, Plan, Clean, Prepare, SelectiveResolve, SelectiveRun, Gen, Daemon}
use Rattle.task_resolve.specs.declared.spots.Lead.{Lead}
use Rattle.task_resolve.specs.declared.spots.Lead.TheVariants.{Jobs, Explain, Unknown, Command}
use Rattle.task_resolve.specs.declared.request.WordPlace.{WordPlace}
use Rattle.task_resolve.specs.declared.spots.Spot.{Spot}
use Rattle.task_resolve.specs.declared.spots.Seen.{Seen}
use Rattle.task_resolve.specs.declared.spots.Spot.TheVariants.{Options, Number, Selector, Further, Seed, End}

plus_none : is_selector (codes "+") ≡ true → ⊥
unfolding is_selector is_segment is_name_segment
plus_none h = cc

-- a plus is no selector
plus_is_none : (word : List ℕ) → is_selector word ≡ true → is_plus word ≡ false
unfolding is_plus
plus_is_none word h = elim (bytes_eq word (codes "+")) as (λ b. bytes_eq word (codes "+") ≡ b → b ≡ false) [
  | true ↦ λ e. absurd (plus_none (subst (λ (w : List ℕ). is_selector w ≡ true) ((bytes_eq-Decides word (codes "+")).0 e) h))
  | false ↦ λ e. refl
] refl

-- what a word that is not bad tells
no_cause : (place : WordPlace) (command : Option Verb) (n : ℕ) (spot : Spot) (word : List ℕ) → word_cause place command n spot word ≡ None → content_cause place command spot word ≡ None
unfolding word_cause
no_cause place command n spot word h = elim_test _ _ h where
  elim_test : (b : Bool) (x : Option Why) → cond b (Some TooLong) x ≡ None → x ≡ None
  elim_test true x h = cc
  elim_test false x h = h

later : (n : ℕ) (cause : Option Why) (x : Option (ℕ × Why)) → (elim cause as (λ _. Option (ℕ × Why)) [ Some why ↦ Some (n, why) | None ↦ x ]) ≡ None → (cause ≡ None) × (x ≡ None)
later n (Some why) x h = absurd (cc)
later n None x h = (refl, h)

module _ (place : WordPlace) (command : Option Verb) where
  here : (n : ℕ) (spot : Spot) (word : List ℕ) (words : List (List ℕ)) → first_bad_from place command n spot (word ∷ words) ≡ None
      → (content_cause place command spot word ≡ None) × (first_bad_from place command (n + 1) (next spot word) words ≡ None)
  unfolding first_bad_from
  here n spot word words h =
      let both = later n (word_cause place command n spot word) (first_bad_from place command (n + 1) (next spot word) words) h in
      (no_cause place command n spot word both.0, both.1)

  abbrev Behind : Bool → List (List ℕ) → Type 0
  Behind args words = (n : ℕ) → first_bad_from place command n (Further args) words ≡ None → list_all is_group (drop 1 (groups words)) ≡ true

  abbrev From : Bool → List (List ℕ) → Type 0
  From args words = (n : ℕ) → first_bad_from place command n (Selector args) words ≡ None → list_all is_group (groups words) ≡ true

  -- words behind a selector, and from one on
  ended : (n : ℕ) (args : Bool) → first_bad_from place command n (Selector args) [] ≡ None → ⊥
  unfolding first_bad_from
  ended n args h = cc

  chosen : (word : List ℕ) (args : Bool) → content_cause place command (Selector args) word ≡ None → is_selector word ≡ true
  unfolding content_cause
  chosen word args h = elim (is_selector word) as (λ b. unless b BadSelector ≡ None → b ≡ true) [ true ↦ λ e. refl | false ↦ λ e. cc ] h

  first_group : (word : List ℕ) (parts : List (List (List ℕ))) → is_selector word ≡ true → list_all is_group (drop 1 parts) ≡ true → list_all is_group (onto_first word parts) ≡ true
  first_group word [] h all = grind arith
  first_group word (part ∷ parts) h all = grind arith

  same_behind : (word : List ℕ) (parts : List (List (List ℕ))) → drop 1 (onto_first word parts) ≡ drop 1 parts
  same_behind word [] = refl
  same_behind word (part ∷ parts) = refl

  both : (words : List (List ℕ)) (args : Bool) → Behind args words × From args words
  unfolding next
  both [] args = (λ n h. refl, λ n h. absurd (ended n args h))
  both (word ∷ words) args = (
    elim (is_plus word) as (λ b. is_plus word ≡ b → Behind args (word ∷ words)) [
      | true ↦ λ e n h.
          let on = here n (Further args) word words h in
          rw (slice_split-cons_yes is_plus word words e) ((both words args).1 (n + 1) (rw e at on.1))
      | false ↦ λ e n h.
          let on = here n (Further args) word words h in
          rw (slice_split-cons_no is_plus word words e, same_behind word (groups words)) ((both words args).0 (n + 1) (rw e at on.1))
    ] refl,
    λ n h.
        let on = here n (Selector args) word words h in
        let is = chosen word args on.0 in
        rw (slice_split-cons_no is_plus word words (plus_is_none word is)) (first_group word (groups words) is ((both words args).0 (n + 1) on.1)),
  )

  -- the selectors of a command behind its name
  by_verb : (verb : Verb) (first : List ℕ) (rest : List (List ℕ)) (n : ℕ) → command_cause place verb first ≡ None → first_bad_from place command n (after_command verb) rest ≡ None
      → list_all is_group (choosing verb (first ∷ rest)) ≡ true
  by_verb Show first rest n cause h = (both rest true).1 n h
  by_verb Run first rest n cause h =
      let is : is_selector first ≡ true = named (is_selector first) cause in
      rw (slice_split-cons_no is_plus first rest (plus_is_none first is)) (first_group first (groups rest) is ((both rest true).0 n h))
    where
      named : (b : Bool) → cond b (unless (is_here place Run) NotHere) (Some BadSelector) ≡ None → b ≡ true
      named true e = refl
      named false e = cc
  by_verb Resolve first rest n cause h = (both rest false).1 n h
  by_verb Plan first rest n cause h = (both rest false).1 n h
  by_verb Clean first rest n cause h = (both rest false).1 n h
  by_verb Prepare first rest n cause h = (both rest false).1 n h
  by_verb SelectiveResolve first rest n cause h = (both rest false).1 n h
  by_verb SelectiveRun first rest n cause h = (both rest false).1 n h
  by_verb Gen first rest n cause h = refl
  by_verb Daemon first rest n cause h = refl

  abbrev GoodRest : List (List ℕ) → Type 0
  GoodRest rest = list_all is_group (choosing (verb_at rest) rest) ≡ true

  -- where a number may stand, the settings say so; else they don't
  abbrev Leads : Settings → Spot → Type 0
  Leads settings (Options seen) = settings.number ≡ false
  Leads settings (Number seen) = settings.number ≡ true
  Leads settings (Selector args) = ⊥
  Leads settings (Further args) = ⊥
  Leads settings Seed = ⊥
  Leads settings End = ⊥

  open_end : (n : ℕ) (seen : Seen) → first_bad_from place command n (Options seen) [] ≡ None → ⊥
  unfolding first_bad_from
  open_end n seen h = cc

  open_number : (n : ℕ) (seen : Seen) → first_bad_from place command n (Number seen) [] ≡ None → ⊥
  unfolding first_bad_from
  open_number n seen h = cc

  -- one word further among the options
  step : (settings : Settings) (word : List ℕ) (words : List (List ℕ)) (x : Option Settings) → settings_behind settings word ≡ x
      → behind_options settings (word ∷ words) ≡ (elim x as (λ _. Settings × List (List ℕ)) [ Some more ↦ behind_options more words | None ↦ (settings, word ∷ words) ])
  unfolding behind_options
  step settings word words x e =
      ap (λ (o : Option Settings). (elim o as (λ _. Settings × List (List ℕ)) [ Some more ↦ behind_options more words | None ↦ (settings, word ∷ words) ])) e

  leading : (settings : Settings) (word : List ℕ) (lead : Lead) → settings.number ≡ false → lead_of word ≡ lead → settings_behind settings word ≡ by_lead settings lead
  unfolding settings_behind
  leading settings word lead none e = ap (λ b. cond b (Some (with_workers settings word)) (by_lead settings (lead_of word))) none ∙ ap (by_lead settings) e

  numbered : (settings : Settings) (word : List ℕ) → settings.number ≡ true → settings_behind settings word ≡ Some (with_workers settings word)
  unfolding settings_behind
  numbered settings word is = ap (λ b. cond b (Some (with_workers settings word)) (by_lead settings (lead_of word))) is

  further : (settings more : Settings) (word : List ℕ) (words : List (List ℕ)) → settings_behind settings word ≡ Some more → GoodRest (behind_options more words).1 → GoodRest (behind_options settings (word ∷ words)).1
  further settings more word words e h = subst (λ (r : Settings × List (List ℕ)). GoodRest r.1) (sym (step settings word words (Some more) e)) h

  ends : (settings : Settings) (word : List ℕ) (words : List (List ℕ)) → settings_behind settings word ≡ None → GoodRest (word ∷ words) → GoodRest (behind_options settings (word ∷ words)).1
  ends settings word words e h = subst (λ (r : Settings × List (List ℕ)). GoodRest r.1) (sym (step settings word words None e)) h

  behind : (words : List (List ℕ)) (settings : Settings) (spot : Spot) (n : ℕ) → Leads settings spot → first_bad_from place command n spot words ≡ None → GoodRest (behind_options settings words).1
  unfolding next content_cause
  behind words settings (Selector args) n leads h = absurd leads
  behind words settings (Further args) n leads h = absurd leads
  behind words settings Seed n leads h = absurd leads
  behind words settings End n leads h = absurd leads
  behind [] settings (Options seen) n leads h = absurd (open_end n seen h)
  behind [] settings (Number seen) n leads h = absurd (open_number n seen h)
  behind (word ∷ words) settings (Number seen) n leads h =
      let on = here n (Number seen) word words h in
      further settings (with_workers settings word) word words (numbered settings word leads) (behind words (with_workers settings word) (Options seen) (n + 1) refl on.1)
  behind (word ∷ words) settings (Options seen) n leads h =
      let on = here n (Options seen) word words h in
      (elim (lead_of word) as (λ lead. lead_of word ≡ lead → GoodRest (behind_options settings (word ∷ words)).1) [
        | Jobs ↦ λ e. further settings (record settings { number = true }) word words (leading settings word Jobs leads e)
            (behind words (record settings { number = true }) (Number (record seen { jobs = true })) (n + 1) refl (rw e at on.1))
        | Explain ↦ λ e. further settings (record settings { explain = true }) word words (leading settings word Explain leads e)
            (behind words (record settings { explain = true }) (Options (record seen { explain = true })) (n + 1) leads (rw e at on.1))
        | Unknown ↦ λ e. absurd (let bad = rw e at on.0 in cc)
        | Command ↦ λ e. ends settings word words (leading settings word Command leads e) (by_verb (verb_named word) word words (n + 1) (rw e at on.0) (rw e at on.1))
      ] refl)

pub good : (place : WordPlace) (words : List (List ℕ)) → first_bad place words ≡ None → list_all is_group (choosing (verb_at (command_words words)) (command_words words)) ≡ true
good place words h = behind place (command_of words) words defaults start 1 refl h
