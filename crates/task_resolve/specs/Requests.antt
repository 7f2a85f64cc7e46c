-- What the words of a command ask for.
use Rattle.std.specs.Prelude.{◌≡◌, ℕ, Bool, true, false, List, [], ◌∷◌, drop, map, Option, Some, None, option_and_then, slice_get, unwrap_or, Result, Ok, Err}
use Rattle.std.specs.List.{list_all, slice_split}
use Rattle.task_resolve.specs.Numbers.{number_of}
use Rattle.task_resolve.specs.Options.{defaults, behind_options, command_words}
use Rattle.task_resolve.specs.Segments.{is_selector, segments}
use Rattle.task_resolve.specs.Spots.{is_plus}
use Rattle.task_resolve.specs.Verbs.{verb_named}
use Rattle.task_resolve.specs.declared.fault.WordFault.{WordFault}
use Rattle.task_resolve.specs.declared.fault.WordFault.TheVariants.{Words, Memory}
use Rattle.task_resolve.specs.declared.options.Settings.{Settings}
use Rattle.task_resolve.specs.declared.request.Request.{Request}
use Rattle.task_resolve.specs.declared.request.Selector.{Selector}
use Rattle.task_resolve.specs.declared.request.Verb.{Verb}
use Rattle.task_resolve.specs.declared.request.Verb.TheVariants.{Show, Run, Resolve, Plan, Clean, Prepare, SelectiveResolve, SelectiveRun, Gen, Daemon}

-- the words between those that are `+`
abbrev pub groups : List (List ℕ) → List (List (List ℕ))
groups words = slice_split is_plus words

-- a selector and its arguments
abbrev pub is_group : List (List ℕ) → Bool
is_group [] = false
is_group (word ∷ args) = is_selector word

abbrev pub selector : List (List ℕ) → Selector
selector [] = record { segments = []; args = [] }
selector (word ∷ args) = record { segments = segments word; args = args }

-- the words of the selectors, among those from the command on
abbrev pub choosing : Verb → List (List ℕ) → List (List (List ℕ))
choosing Show words = groups (drop 1 words)
choosing Run words = groups words
choosing Resolve words = groups (drop 1 words)
choosing Plan words = groups (drop 1 words)
choosing Clean words = groups (drop 1 words)
choosing Prepare words = groups (drop 1 words)
choosing SelectiveResolve words = groups (drop 1 words)
choosing SelectiveRun words = groups (drop 1 words)
choosing Gen words = []
choosing Daemon words = []

abbrev pub seed_of : Verb → List (List ℕ) → ℕ
seed_of Show words = 0
seed_of Run words = 0
seed_of Resolve words = 0
seed_of Plan words = 0
seed_of Clean words = 0
seed_of Prepare words = 0
seed_of SelectiveResolve words = 0
seed_of SelectiveRun words = 0
seed_of Gen words = unwrap_or (option_and_then number_of (slice_get words 1)) 0
seed_of Daemon words = 0

abbrev pub verb_at : List (List ℕ) → Verb
verb_at [] = Run
verb_at (word ∷ words) = verb_named word

abbrev pub request_behind : Settings → List (List ℕ) → Request
request_behind settings words = record {
  workers = settings.workers;
  explain = settings.explain;
  verb = verb_at words;
  selectors = map selector (choosing (verb_at words) words);
  seed = seed_of (verb_at words) words;
}

-- what is asked for, where no word is bad
unfoldable pub request_of : List (List ℕ) → Request
request_of words = request_behind (behind_options defaults words).0 (command_words words)

-- the request was read, unless memory ran out
abbrev pub ReadsUnlessMemory : Request → Result Request WordFault → Type 0
ReadsUnlessMemory request (Ok read) = read ≡ request
ReadsUnlessMemory request (Err Memory) = Unit {0}
ReadsUnlessMemory request (Err (Words number why)) = ⊥
