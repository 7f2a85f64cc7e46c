-- From where words come.
use Rattle.std.specs.Prelude.{Bool, true, false}
use Rattle.task_resolve.specs.declared.request.WordPlace.{WordPlace}
use Rattle.task_resolve.specs.declared.request.WordPlace.TheVariants.{Shell, One, Replay, Daemon}

-- a daemon is started by the command line alone
abbrev pub starts_daemon : WordPlace → Bool
starts_daemon Shell = true
starts_daemon One = false
starts_daemon Replay = false
starts_daemon Daemon = false

-- the generator runs scripts of its own, so it is no step of one
abbrev pub may_generate : WordPlace → Bool
may_generate Shell = true
may_generate One = true
may_generate Replay = false
may_generate Daemon = false

-- selective commands and `-j` are not for a daemon's clients
abbrev pub is_client : WordPlace → Bool
is_client Shell = false
is_client One = false
is_client Replay = false
is_client Daemon = true
