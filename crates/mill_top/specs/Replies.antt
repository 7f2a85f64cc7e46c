-- The reply to a command, and what is printed.
use Rattle.std.specs.Prelude.{◌≡◌, ℕ, ℤ, Bool, true, if◌then◌else◌, List, [], ◌∷◌, ◌++◌, flat_map, fold, take, codes, Option, Some, None, ◌⊎◌}
use Rattle.std.specs.BTreeMap.{insert_entry}
use Rattle.std.specs.Fmt.{signed_decimal}
use Rattle.io_traits.specs.Causes.{Rose}
use Rattle.io_traits.specs.Streams.{Got}
use Rattle.tree_value.specs.Trees.{path_cmp}
use Rattle.mill_top.specs.declared.build_fault.BuildFault.{BuildFault}
use Rattle.mill_top.specs.declared.outcome.Outcome.{Outcome}
use Rattle.mill_top.specs.declared.outcome.Outcome.TheVariants.{Returns}
use Rattle.mill_top.specs.declared.recorded.Record.{Record}
use Rattle.mill_top.specs.declared.reply.Reply.{Reply}
use Rattle.mill_top.specs.declared.reply.Reply.TheVariants.{Value, WordsNotBuilt, Build, NoTask, StoreFault, WorkspaceFault, Memory}
use Rattle.mill_top.specs.declared.takes.FoundEntry.{FoundEntry}
use Rattle.mill_top.specs.declared.takes.FoundEntry.TheVariants.{Missing, Other, Same}
use Rattle.mill_top.specs.BuildFaults.{wants_memory, build_line}
use Rattle.mill_top.specs.Loading.{IsLoaded, IsUnloaded}
use Rattle.mill_top.specs.Words.{asked}
use Rattle.mill_top.specs.Graphs.{refusal_of_build}
use Rattle.mill_top.specs.Scratch.{scratch}

abbrev pub status : Reply → ℕ
status (Value value) = 0
status WordsNotBuilt = 2
status (Build fault) = 3
status (NoTask task) = 2
status StoreFault = 4
status WorkspaceFault = 5
status Memory = 6

abbrev pub line : Reply → List ℕ
line (Value value) = signed_decimal value
line WordsNotBuilt = codes "not built: words"
line (Build fault) = build_line fault
line (NoTask task) = codes "no task: " ++ task
line StoreFault = codes "store fault"
line WorkspaceFault = codes "workspace fault"
line Memory = codes "memory"

-- what `--explain` says of a task: a line with the reason, where it ran
abbrev pub explained : List ℕ → FoundEntry → List ℕ
explained task Missing = task ++ codes " ran: missing\n"
explained task (Other input) = task ++ codes " ran: changed\n"
explained task (Same input) = []

-- tasks in byte order of their names, each with what was found last
abbrev pub in_name_order : List (List ℕ × FoundEntry) → List (List ℕ × FoundEntry)
in_name_order takes = fold (λ ordered take. insert_entry path_cmp ordered take.0 take.1) [] takes

unfoldable pub explanation : List (List ℕ × FoundEntry) → List ℕ
explanation takes = flat_map (λ take. explained take.0 take.1) (in_name_order takes)

-- where a value is the reply, and `--explain` is asked for, the explanation stands before it
abbrev pub before_line : Bool → List (List ℕ × FoundEntry) → Reply → List ℕ
before_line true takes (Value value) = explanation takes
before_line _ takes reply = []

-- all that is printed for a reply, after these takes: the reply's line, with a line feed behind it, after the explanation
unfoldable pub printed : Bool → List (List ℕ × FoundEntry) → Reply → List ℕ
printed explains takes reply = before_line explains takes reply ++ line reply ++ 10 ∷ []

-- the reply where a build is refused
abbrev pub build_reply : BuildFault → Reply
build_reply fault = if wants_memory fault then Memory else Build fault

-- why a record whose build is loaded is refused: its build is, or else it has no such task
abbrev pub refusal_by : List ℕ → Option BuildFault → Option Outcome → Option Reply
refusal_by task (Some refused) outcome = Some (build_reply refused)
refusal_by task None None = Some (NoTask task)
refusal_by task None (Some outcome) = None

abbrev pub refusal : Record → List ℕ → Option Reply
refusal inputs task = refusal_by task (refusal_of_build inputs.files) (scratch inputs task)

abbrev pub reply_by : List ℕ → Option BuildFault → Option Outcome → Reply
reply_by task (Some refused) outcome = build_reply refused
reply_by task None None = NoTask task
reply_by task None (Some (Returns value log)) = Value value

-- The class files aren't loaded, and the reply tells the first cause; or they are, and it is that of their tasks.
abbrev pub IsTaskReply : Record → List ℕ → Reply → Type 0
IsTaskReply inputs task reply =
    ((fault : BuildFault) × IsUnloaded inputs.files fault × (reply ≡ build_reply fault))
    ⊎ (IsLoaded inputs.files × (reply ≡ reply_by task (refusal_of_build inputs.files) (scratch inputs task)))

abbrev pub IsWordsReply : Record → Option (List ℕ) → Reply → Type 0
IsWordsReply inputs None reply = reply ≡ WordsNotBuilt
IsWordsReply inputs (Some task) reply = IsTaskReply inputs task reply

-- the reply that evaluation from scratch over a record gives to its words
abbrev pub IsReplyOf : Record → Reply → Type 0
IsReplyOf inputs reply = IsWordsReply inputs (asked inputs.words) reply

-- the sink has a front part of the text behind what it had
abbrev pub GotFront : (before after : Option (List ℕ)) → List ℕ → Type 0
GotFront before after text = (n : ℕ) × Got before after (take n text)

-- a status was given and the text was sent; or 7 was given, the sink failed, and a front part of the text was sent
abbrev pub IsSent : (given own : ℕ) → (before after : Option (List ℕ)) → (faults faults_now : ℕ) → List ℕ → Type 0
IsSent given own before after faults faults_now text =
    ((given ≡ own) × Got before after text) ⊎ ((given ≡ 7) × Rose faults faults_now × GotFront before after text)

-- The sink that had `before` has all of the text behind it, and the status is that of the reply; or it has a front part
-- of the text, and the status is 7.
abbrev pub Shown : (before after : Option (List ℕ)) → List ℕ → Reply → ℕ → Type 0
Shown before after text reply status_now =
    ((status_now ≡ status reply) × Got before after text)
    ⊎ ((status_now ≡ 7) × GotFront before after text)
