-- What several calls come to, one after the other, and crashes between them.
use Rattle.std.proofs.Common.{◌≡◌, ◌≢◌, ℕ, ◌+◌, ◌≤◌, ◌⊎◌, inl, inr, List, [], Some, None, Ok, Err, IfOk, Result, refl, sym, ap, subst, ◌∙◌, arith, get_or}
use Rattle.std.specs.declared.option.Option.{Option}
use Rattle.qh_limits.specs.Counts.{Rose}
use Rattle.qh_plan.specs.Jobs.{Job}
use Rattle.qh_io.specs.Memory.{Tray}
use Rattle.qh_disk.specs.Disk.{Face, IsImage, IsSafe}
use Rattle.qh_disk.specs.History.{History, content_of, face_of}
use Rattle.qh_disk.specs.Moments.{EachImage, Runs}
use Rattle.qh_disk.specs.Plan.{CallPlan}
use Rattle.qh_disk.proofs.Moments.{runs_same, runs_on, each_since_same, each_since_step, each_since_on, crash_keeps}
use Rattle.qh_slots.specs.Layout.{mark}
use Rattle.qh_slots.specs.Stands.{Made}
use Rattle.qh_slots.specs.Moments.{IsEmptyAt}
use Rattle.qh_words.specs.declared.options.Options.{Options}
use Rattle.qh_request.specs.Jobs.{Asks}
use Rattle.qh_endure.specs.Outcomes.{IsMadeSince, IsMadeNow, Proceeds, Ends}
use Rattle.qh_endure.proofs.Calls.{each_now}

-- the rounds up to some moment, of which the last had this status
pub record Endures (asked : Option Options) (circuit bits : List ℕ) (disk after : History) (out out_after : Tray) (status : ℕ) : Type 0 where
  pub proceeds : Proceeds asked circuit bits disk after out out_after
  pub ends : Ends asked circuit bits disk after out out_after status

module _ (asked : Option Options) (circuit bits : List ℕ) where
  -- the empty file is made
  not_begun : (c : List ℕ) → c ≡ [] → get_or c 0 0 ≢ mark
  not_begun c e is = let same : 0 ≡ mark = sym (ap (λ f. get_or f 0 0) e) ∙ is in omega arith

  pub empty_made : (disk : History) → IsEmptyAt (face_of disk).clock (face_of disk) → IsMadeNow asked circuit bits (face_of disk)
  empty_made disk empty o j asks = each_since_same (Made j) (face_of disk) (λ c is. inl (not_begun c (empty c is)))

  -- what was made since a moment is made now
  pub made_now : (disk after : History) → Runs (face_of disk) (face_of after) → IsMadeSince asked circuit bits (face_of disk).clock (face_of after) → IsMadeNow asked circuit bits (face_of after)
  made_now disk after runs made o j asks c is =
      made o j asks c (record { moment = is.moment; after = omega (arith, runs.later, is.after); by_now = is.by_now; image = is.image })

  -- no call on the disk but a plan of its calls
  pub planned : (disk after : History) (plan : CallPlan) (out : Tray) → after ≡ record disk { plan = plan } → IsMadeNow asked circuit bits (face_of disk)
      → Proceeds asked circuit bits disk after out out
  planned disk after plan out e made = record {
    made = subst (λ (d : History). IsMadeSince asked circuit bits (face_of disk).clock (face_of d)) (sym e) made;
    moments = subst (λ (d : History). Runs (face_of disk) (face_of d)) (sym e) (runs_same (face_of disk));
    later = omega arith;
  }

  -- a crash leaves an image
  crashed : (disk after : History) (out : Tray) → Runs (face_of disk) (face_of after) → (face_of after).clock ≤ (face_of disk).clock + 1 → IsImage (face_of disk) (content_of after)
      → IsSafe (face_of after) → IsMadeNow asked circuit bits (face_of disk) → Proceeds asked circuit bits disk after out out
  crashed disk after out runs soon image safe made = record {
    made = λ o j asks.
        let each = each_now asked circuit bits disk made o j asks in
        each_since_step (Made j) (face_of disk) (face_of after) runs soon each (crash_keeps (Made j) (face_of disk) (face_of after) (content_of after) image safe refl each);
    moments = runs;
    later = omega arith;
  }

  -- one after the other
  pub proceeds_on : (disk mid after : History) (out between out_after : Tray) → Proceeds asked circuit bits disk mid out between → Proceeds asked circuit bits mid after between out_after
      → Proceeds asked circuit bits disk after out out_after
  proceeds_on disk mid after out between out_after a b = record {
    made = λ o j asks. each_since_on (Made j) (face_of disk).clock (face_of mid) (face_of after) (a.made o j asks) b.moments (b.made o j asks);
    moments = runs_on (face_of disk) (face_of mid) (face_of after) a.moments b.moments;
    later = omega (arith, a.later, b.later);
  }

  -- rounds, and a crash behind them
  pub crashed_on : (disk mid after : History) (out between : Tray) → Proceeds asked circuit bits disk mid out between → Runs (face_of mid) (face_of after)
      → (face_of after).clock ≤ (face_of mid).clock + 1 → IsImage (face_of mid) (content_of after) → IsSafe (face_of after) → Proceeds asked circuit bits disk after out between
  crashed_on disk mid after out between before runs soon image safe =
      proceeds_on disk mid after out between between before (crashed mid after between runs soon image safe (made_now disk mid before.moments before.made))

  rose_since : (first before now : ℕ) → first ≤ before → Rose before now → Rose first now
  rose_since first before now le rose = omega (arith, le, rose)

  -- the last status, of all that went before
  pub ends_since : (disk mid after : History) (out between out_after : Tray) (status : ℕ) → Proceeds asked circuit bits disk mid out between
      → Ends asked circuit bits mid after between out_after status → Ends asked circuit bits disk after out out_after status
  ends_since disk mid after out between out_after status before e = record {
    answer = e.answer;
    usage = e.usage;
    usage_only = e.usage_only;
    refused = e.refused;
    refused_only = e.refused_only;
    over = e.over;
    all_read = e.all_read;
    disk_fault = λ five. rose_since disk.faults mid.faults after.faults before.moments.faults (e.disk_fault five);
    write_fault = λ six. rose_since out.faults between.faults out_after.faults before.later (e.write_fault six);
    journal = e.journal;
  }

  pub ends_later : {E : Type 0} (disk mid after : History) (out between out_after : Tray) (result : Result ℕ E) → Proceeds asked circuit bits disk mid out between
      → IfOk result (Ends asked circuit bits mid after between out_after) → IfOk result (Ends asked circuit bits disk after out out_after)
  ends_later disk mid after out between out_after (Ok status) before e = ends_since disk mid after out between out_after status before e
  ends_later disk mid after out between out_after (Err why) before e = e
