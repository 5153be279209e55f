-- What want of memory is answered with.
use Rattle.std.specs.Prelude.{None}
use Rattle.record.specs.declared.denial.Cause.TheVariants.{OutOfMemory}
use Rattle.record.specs.declared.denial.Denial.{Denial}
use Rattle.record.specs.declared.denial.LoadFault.{LoadFault}

abbrev pub memory_denial : Denial
memory_denial = record { cause = OutOfMemory; place = None; byte = 0 }

abbrev pub memory_fault : LoadFault
memory_fault = record { cause = OutOfMemory; byte = 0 }
