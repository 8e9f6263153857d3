use Rattle.std.proofs.Common.{◌++◌, ℕ, decimal, sym, ap, subst, ◌∙◌}
use Rattle.std.specs.Prelude.{codes}
use Rattle.std.proofs.Math.Path.{ap₂}
use Rattle.qh_io.specs.Saying.{Says}
use Rattle.qh_merge.specs.Ends.{fault_line}
use Rattle.qh_merge.proofs.say.tell_fault.Goals as goal

pub returns-in-NoInput : goal.returns-in-NoInput
returns-in-NoInput g c = subst (Says _) (c.as_bytes.ensures.value ∙ sym (ap fault_line c.in-NoInput.is)) c.say.ensures.says

pub returns-in-DiskFault : goal.returns-in-DiskFault
returns-in-DiskFault g c =
    subst (Says _) (ap (λ (n : ℕ). codes "merge: DiskFault " ++ decimal n ++ codes "\n") c.from.ensures ∙ sym (ap fault_line c.in-DiskFault.is)) c.say_number.ensures.says

pub returns-in-Unread : goal.returns-in-Unread
returns-in-Unread g c =
    subst (Says _) (ap (λ (n : ℕ). codes "merge: Unread " ++ decimal n ++ codes "\n") c.from-in-Unread.ensures ∙ sym (ap fault_line c.in-Unread.is)) c.say_number-in-Unread.ensures.says

pub returns-in-WholeJob : goal.returns-in-WholeJob
returns-in-WholeJob g c =
    subst (Says _) (ap (λ (n : ℕ). codes "merge: WholeJob " ++ decimal n ++ codes "\n") c.from-in-WholeJob.ensures ∙ sym (ap fault_line c.in-WholeJob.is)) c.say_number-in-WholeJob.ensures.says

pub returns-in-OtherFamily : goal.returns-in-OtherFamily
returns-in-OtherFamily g c =
    subst (Says _) (ap (λ (n : ℕ). codes "merge: OtherFamily " ++ decimal n ++ codes "\n") c.from-in-OtherFamily.ensures ∙ sym (ap fault_line c.in-OtherFamily.is)) c.say_number-in-OtherFamily.ensures.says

pub returns-in-Unfinished : goal.returns-in-Unfinished
returns-in-Unfinished g c =
    subst (Says _)
    (ap₂ (λ (m n : ℕ). codes "merge: Unfinished " ++ decimal m ++ codes " " ++ decimal n ++ codes "\n") c.from-in-Unfinished.ensures c.from-in-Unfinished-2.ensures ∙ sym (ap fault_line c.in-Unfinished.is))
    c.say_numbers.ensures.says

pub returns-in-Unequal : goal.returns-in-Unequal
returns-in-Unequal g c =
    subst (Says _)
    (ap (λ (n : ℕ). codes "merge: Unequal " ++ decimal c.in-Unequal.prefix ++ codes " " ++ decimal n ++ codes "\n") c.from-in-Unequal.ensures ∙ sym (ap fault_line c.in-Unequal.is))
    c.say_numbers-in-Unequal.ensures.says

pub returns-in-Missing : goal.returns-in-Missing
returns-in-Missing g c = subst (Says _) (sym (ap fault_line c.in-Missing.is)) c.say_number-in-Missing.ensures.says

pub returns-in-Memory : goal.returns-in-Memory
returns-in-Memory g c = subst (Says _) (c.as_bytes-in-Memory.ensures.value ∙ sym (ap fault_line c.in-Memory.is)) c.say-in-Memory.ensures.says
