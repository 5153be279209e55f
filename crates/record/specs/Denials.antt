-- The numbers of denials, and the denial of what is malformed.
use Rattle.std.specs.Prelude.{ℕ, Some, None, Option}
use Rattle.record.specs.declared.denial.Cause.{Cause}
use Rattle.record.specs.declared.denial.Denial.{Denial}
use Rattle.record.specs.declared.denial.Cause.TheVariants.{UnknownKey, UnresolvedSpecifier, OutsideGrammar, RepeatedName, UndeclaredExport, OverLimit, MalformedList, NoBinding, SeveralBindings, NoModule, NotLinked, BodyFault, MalformedBundle, EmptyCell, OutOfMemory}

-- want of memory alone has none
abbrev pub number : Cause → Option ℕ
number UnknownKey = Some 1
number UnresolvedSpecifier = Some 2
number OutsideGrammar = Some 3
number RepeatedName = Some 4
number UndeclaredExport = Some 5
number OverLimit = Some 6
number MalformedList = Some 7
number NoBinding = Some 8
number SeveralBindings = Some 9
number NoModule = Some 10
number NotLinked = Some 11
number (BodyFault c) = Some 12
number MalformedBundle = Some 13
number EmptyCell = Some 14
number OutOfMemory = None

-- what a bundle, or a host's keys or rows, are denied with at this byte or number; it names no place
abbrev pub malformed_at : ℕ → Denial
malformed_at byte = record { cause = MalformedBundle; place = None; byte = byte }
