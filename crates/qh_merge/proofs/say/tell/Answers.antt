use Rattle.std.proofs.Common.{sym, ap, subst}
use Rattle.qh_io.specs.Saying.{Says}
use Rattle.qh_merge.specs.Ends.{line_of}
use Rattle.qh_merge.proofs.say.tell.Goals as goal

pub returns-in-Overflow : goal.returns-in-Overflow
returns-in-Overflow g c = subst (Says _) (sym (ap line_of c.in-Overflow.is)) c.say_number.ensures.says

pub returns-in-WriteFault : goal.returns-in-WriteFault
returns-in-WriteFault g c = subst (Says _) (sym (ap line_of c.in-WriteFault.is)) c.say_number-in-WriteFault.ensures.says
