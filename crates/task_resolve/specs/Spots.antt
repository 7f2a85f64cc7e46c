-- What may stand behind words of a command.
use Rattle.std.specs.Prelude.{ℕ, Bool, true, false, List, codes, if◌then◌else◌}
use Rattle.std.specs.List.{starts_with}
use Rattle.std.specs.Prelude.{nat_eq}
use Rattle.std.specs.Str.{bytes_eq}
use Rattle.task_resolve.specs.Verbs.{verb_named}
use Rattle.task_resolve.specs.declared.request.Verb.{Verb}
use Rattle.task_resolve.specs.declared.request.Verb.TheVariants.{Show, Run, Resolve, Plan, Clean, Prepare, SelectiveResolve, SelectiveRun, Gen, Daemon}
use Rattle.task_resolve.specs.declared.spots.Lead.{Lead}
use Rattle.task_resolve.specs.declared.spots.Lead.TheVariants.{Jobs, Explain, Unknown, Command}
use Rattle.task_resolve.specs.declared.spots.Seen.{Seen}
use Rattle.task_resolve.specs.declared.spots.Spot.{Spot}
use Rattle.task_resolve.specs.declared.spots.Spot.TheVariants.{Options, Number, Selector, Further, Seed, End}

-- what a word is, where an option or the command may stand
unfoldable pub lead_of : List ℕ → Lead
lead_of word =
    if bytes_eq word (codes "-j") then Jobs
    else if bytes_eq word (codes "--explain") then Explain
    else if starts_with nat_eq word (codes "-") then Unknown
    else Command

unfoldable pub is_plus : List ℕ → Bool
is_plus word = bytes_eq word (codes "+")

-- no option has stood yet
abbrev pub none_seen : Seen
none_seen = record { jobs = false; explain = false }

abbrev pub start : Spot
start = Options none_seen

-- behind a command's name; where it has no name, its first word is a selector
abbrev pub after_command : Verb → Spot
after_command Show = Selector true
after_command Run = Further true
after_command Resolve = Selector false
after_command Plan = Selector false
after_command Clean = Selector false
after_command Prepare = Selector false
after_command SelectiveResolve = Selector false
after_command SelectiveRun = Selector false
after_command Gen = Seed
after_command Daemon = End

abbrev pub after_lead : Seen → List ℕ → Lead → Spot
after_lead seen word Jobs = Number (record seen { jobs = true })
after_lead seen word Explain = Options (record seen { explain = true })
after_lead seen word Unknown = Options seen
after_lead seen word Command = after_command (verb_named word)

-- what may stand behind a word that stood there
unfoldable pub next : Spot → List ℕ → Spot
next (Options seen) word = after_lead seen word (lead_of word)
next (Number seen) word = Options seen
next (Selector args) word = Further args
next (Further args) word = if is_plus word then Selector args else Further args
next Seed word = End
next End word = End

-- the words may end there
abbrev pub is_complete : Spot → Bool
is_complete (Options seen) = false
is_complete (Number seen) = false
is_complete (Selector args) = false
is_complete (Further args) = true
is_complete Seed = false
is_complete End = true
