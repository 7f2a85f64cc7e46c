-- The causes of a bad word as they are printed.
use Rattle.std.specs.Prelude.{ℕ, List, codes}
use Rattle.task_resolve.specs.declared.fault.Why.{Why}
use Rattle.task_resolve.specs.declared.fault.Why.TheVariants.{MissingWord, UnknownOption, SecondOption, BadNumber, BadSelector, ExtraWord, NotHere, TooLong}

abbrev pub cause_text : Why → List ℕ
cause_text MissingWord = codes "missing word"
cause_text UnknownOption = codes "unknown option"
cause_text SecondOption = codes "second option"
cause_text BadNumber = codes "bad number"
cause_text BadSelector = codes "bad selector"
cause_text ExtraWord = codes "extra word"
cause_text NotHere = codes "not here"
cause_text TooLong = codes "too long"
