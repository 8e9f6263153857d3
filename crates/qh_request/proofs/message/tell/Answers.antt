use Rattle.std.proofs.Common.{sym, ap, ◌∙◌, subst}
use Rattle.qh_request.specs.Stops.{Says, message_of}
use Rattle.qh_request.proofs.message.tell.Goals as goal

pub returns-in-Usage : goal.returns-in-Usage
returns-in-Usage g c = subst (Says _) (c.as_bytes.ensures.value ∙ sym (ap message_of c.in-Usage.is)) c.say.ensures.says

pub returns-in-OverflowGate : goal.returns-in-OverflowGate
returns-in-OverflowGate g c = subst (Says _) (sym (ap message_of c.in-OverflowGate.is)) c.say_number.ensures

pub returns-in-OverflowPath : goal.returns-in-OverflowPath
returns-in-OverflowPath g c = subst (Says _) (sym (ap message_of c.in-OverflowPath.is)) c.say_number-in-OverflowPath.ensures

pub returns-in-WriteFault : goal.returns-in-WriteFault
returns-in-WriteFault g c = subst (Says _) (sym (ap message_of c.in-WriteFault.is)) c.say_number-in-WriteFault.ensures

pub returns-in-Memory : goal.returns-in-Memory
returns-in-Memory g c = subst (Says _) (c.as_bytes-in-Memory.ensures.value ∙ sym (ap message_of c.in-Memory.is)) c.say-in-Memory.ensures.says

pub returns-in-DiskFault : goal.returns-in-DiskFault
returns-in-DiskFault g c = subst (Says _) (c.as_bytes-in-DiskFault.ensures.value ∙ sym (ap message_of c.in-DiskFault.is)) c.say-in-DiskFault.ensures.says
