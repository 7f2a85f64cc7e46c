-- The names of the commands, and where each is accepted.
use Rattle.std.specs.Prelude.{ℕ, Bool, true, false, not, List, codes, if◌then◌else◌}
use Rattle.std.specs.Str.{bytes_eq}
use Rattle.task_resolve.specs.declared.request.Verb.{Verb}
use Rattle.task_resolve.specs.declared.request.Verb.TheVariants.{Show, Run, Resolve, Plan, Clean, Prepare, SelectiveResolve, SelectiveRun, Gen, Daemon}
use Rattle.task_resolve.specs.declared.request.WordPlace.{WordPlace}
use Rattle.task_resolve.specs.Places.{starts_daemon, may_generate, is_client}

-- the command that a word names; a word that is no command's name is a selector, of the command without a name
unfoldable pub verb_named : List ℕ → Verb
verb_named word =
    if bytes_eq word (codes "show") then Show
    else if bytes_eq word (codes "resolve") then Resolve
    else if bytes_eq word (codes "plan") then Plan
    else if bytes_eq word (codes "clean") then Clean
    else if bytes_eq word (codes "selective.prepare") then Prepare
    else if bytes_eq word (codes "selective.resolve") then SelectiveResolve
    else if bytes_eq word (codes "selective.run") then SelectiveRun
    else if bytes_eq word (codes "gen") then Gen
    else if bytes_eq word (codes "daemon") then Daemon
    else Run

abbrev pub takes_explain : Verb → Bool
takes_explain Show = true
takes_explain Run = true
takes_explain Resolve = false
takes_explain Plan = false
takes_explain Clean = false
takes_explain Prepare = false
takes_explain SelectiveResolve = false
takes_explain SelectiveRun = true
takes_explain Gen = false
takes_explain Daemon = false

abbrev pub is_here : WordPlace → Verb → Bool
is_here place Show = true
is_here place Run = true
is_here place Resolve = true
is_here place Plan = true
is_here place Clean = true
is_here place Prepare = not (is_client place)
is_here place SelectiveResolve = not (is_client place)
is_here place SelectiveRun = not (is_client place)
is_here place Gen = may_generate place
is_here place Daemon = starts_daemon place
