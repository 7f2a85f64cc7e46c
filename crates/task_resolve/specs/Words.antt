-- Which word of a command is bad, and why.
use Rattle.std.specs.Prelude.{ℕ, ◌+◌, nat_lt, Bool, ◌&&◌, ◌||◌, true, false, not, List, [], ◌∷◌, length, Option, Some, None, is_some, if◌then◌else◌}
use Rattle.task_resolve.specs.Numbers.{number_of, workers_of}
use Rattle.task_resolve.specs.Options.{command_of}
use Rattle.task_resolve.specs.Places.{is_client}
use Rattle.task_resolve.specs.Segments.{is_selector}
use Rattle.task_resolve.specs.Spots.{lead_of, is_plus, start, next, is_complete}
use Rattle.task_resolve.specs.Verbs.{verb_named, takes_explain, is_here}
use Rattle.task_resolve.specs.declared.fault.Why.{Why}
use Rattle.task_resolve.specs.declared.fault.Why.TheVariants.{MissingWord, UnknownOption, SecondOption, BadNumber, BadSelector, ExtraWord, NotHere, TooLong}
use Rattle.task_resolve.specs.declared.request.Verb.{Verb}
use Rattle.task_resolve.specs.declared.request.Verb.TheVariants.{Show, Run, Resolve, Plan, Clean, Prepare, SelectiveResolve, SelectiveRun, Gen, Daemon}
use Rattle.task_resolve.specs.declared.request.WordPlace.{WordPlace}
use Rattle.task_resolve.specs.declared.spots.Lead.{Lead}
use Rattle.task_resolve.specs.declared.spots.Lead.TheVariants.{Jobs, Explain, Unknown, Command}
use Rattle.task_resolve.specs.declared.spots.Seen.{Seen}
use Rattle.task_resolve.specs.declared.spots.Spot.{Spot}
use Rattle.task_resolve.specs.declared.spots.Spot.TheVariants.{Options, Number, Selector, Further, Seed, End}

abbrev pub unless : Bool → Why → Option Why
unless fits why = if fits then None else Some why

-- `--explain` stands before a command that doesn't take it
abbrev pub takes_no_explain : Option Verb → Bool
takes_no_explain (Some verb) = not (takes_explain verb)
takes_no_explain None = false

-- a word that is no command's name is a selector
abbrev pub is_named : Verb → List ℕ → Bool
is_named Show word = true
is_named Run word = is_selector word
is_named Resolve word = true
is_named Plan word = true
is_named Clean word = true
is_named Prepare word = true
is_named SelectiveResolve word = true
is_named SelectiveRun word = true
is_named Gen word = true
is_named Daemon word = true

abbrev pub command_cause : WordPlace → Verb → List ℕ → Option Why
command_cause place verb word = if is_named verb word then unless (is_here place verb) NotHere else Some BadSelector

abbrev pub jobs_cause : WordPlace → Seen → Option Why
jobs_cause place seen = if seen.jobs then Some SecondOption else unless (not (is_client place)) NotHere

abbrev pub explain_cause : Option Verb → Seen → Option Why
explain_cause command seen = if seen.explain then Some SecondOption else unless (not (takes_no_explain command)) NotHere

abbrev pub lead_cause : WordPlace → Option Verb → Seen → List ℕ → Lead → Option Why
lead_cause place command seen word Jobs = jobs_cause place seen
lead_cause place command seen word Explain = explain_cause command seen
lead_cause place command seen word Unknown = Some UnknownOption
lead_cause place command seen word Command = command_cause place (verb_named word) word

-- why a word may not stand there, by its content
unfoldable pub content_cause : WordPlace → Option Verb → Spot → List ℕ → Option Why
content_cause place command (Options seen) word = lead_cause place command seen word (lead_of word)
content_cause place command (Number seen) word = unless (is_some (workers_of word)) BadNumber
content_cause place command (Selector args) word = unless (is_selector word) BadSelector
content_cause place command (Further args) word = unless (args || is_plus word) ExtraWord
content_cause place command Seed word = unless (is_some (number_of word)) BadNumber
content_cause place command End word = Some ExtraWord

-- why the word of this number, from 1, is bad, if it is
unfoldable pub word_cause : WordPlace → Option Verb → ℕ → Spot → List ℕ → Option Why
word_cause place command number spot word =
    if nat_lt 256 number || nat_lt 4096 (length word) then Some TooLong else content_cause place command spot word

-- the first bad word and its cause, among words from this number on, where those before them led to the spot
unfoldable pub first_bad_from : WordPlace → Option Verb → ℕ → Spot → List (List ℕ) → Option (ℕ × Why)
first_bad_from place command number spot [] = if is_complete spot then None else Some (number, MissingWord)
first_bad_from place command number spot (word ∷ words) = elim (word_cause place command number spot word) [
  | Some why ↦ Some (number, why)
  | None ↦ first_bad_from place command (number + 1) (next spot word) words
]

abbrev pub first_bad : WordPlace → List (List ℕ) → Option (ℕ × Why)
first_bad place words = first_bad_from place (command_of words) 1 start words
