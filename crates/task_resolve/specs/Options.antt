-- The options and the words behind them, whatever is wrong with the options.
use Rattle.std.specs.Prelude.{ℕ, Bool, true, false, List, [], ◌∷◌, Option, Some, None, option_map, slice_get, unwrap_or, if◌then◌else◌}
use Rattle.task_resolve.specs.Numbers.{workers_of}
use Rattle.task_resolve.specs.Spots.{lead_of}
use Rattle.task_resolve.specs.Verbs.{verb_named}
use Rattle.task_resolve.specs.declared.request.Verb.{Verb}
use Rattle.task_resolve.specs.declared.options.Settings.{Settings}
use Rattle.task_resolve.specs.declared.spots.Lead.{Lead}
use Rattle.task_resolve.specs.declared.spots.Lead.TheVariants.{Jobs, Explain, Unknown, Command}

abbrev pub defaults : Settings
defaults = record { workers = 4; explain = false; number = false }

abbrev pub with_workers : Settings → List ℕ → Settings
with_workers settings word = record settings { workers = unwrap_or (workers_of word) settings.workers; number = false }

abbrev pub by_lead : Settings → Lead → Option Settings
by_lead settings Jobs = Some (record settings { number = true })
by_lead settings Explain = Some (record settings { explain = true })
by_lead settings Unknown = Some settings
by_lead settings Command = None

-- the settings behind a word; none where it is the command
unfoldable pub settings_behind : Settings → List ℕ → Option Settings
settings_behind settings word = if settings.number then Some (with_workers settings word) else by_lead settings (lead_of word)

-- the settings that the options make, and the words from the command on
unfoldable pub behind_options : Settings → List (List ℕ) → Settings × List (List ℕ)
behind_options settings [] = (settings, [])
behind_options settings (word ∷ words) = elim (settings_behind settings word) [
  | Some more ↦ behind_options more words
  | None ↦ (settings, word ∷ words)
]

abbrev pub command_words : List (List ℕ) → List (List ℕ)
command_words words = (behind_options defaults words).1

-- the command, if there is one
abbrev pub command_of : List (List ℕ) → Option Verb
command_of words = option_map verb_named (slice_get (command_words words) 0)
