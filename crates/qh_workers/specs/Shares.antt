-- What a share counts.
use Rattle.std.specs.Prelude.{◌≡◌, ◌+◌, ◌≤◌, Bool, true, false}
use Rattle.qh_lease.specs.declared.totals.Totals.{Totals}

-- one more grant, one more give-back, one more acknowledgement
abbrev pub one_grant : Totals → Totals
one_grant s = record s { grants = s.grants + 1 }

abbrev pub one_back : Totals → Totals
one_back s = record s { backs = s.backs + 1 }

abbrev pub one_ack : Totals → Totals
one_ack s = record s { acks = s.acks + 1 }

-- after the answer to a give-back
abbrev pub after_back : Bool → Totals → Totals
after_back true s = one_back s
after_back false s = s

-- no count fell
pub record Grows (old new : Totals) : Type 0 where
  pub grants : old.grants ≤ new.grants
  pub backs : old.backs ≤ new.backs
  pub acks : old.acks ≤ new.acks

-- as many were acknowledged since as were granted, and none was given back
pub record AllAcked (old new : Totals) : Type 0 where
  pub acks : new.acks + old.grants ≡ old.acks + new.grants
  pub backs : new.backs ≡ old.backs

-- as many were acknowledged or given back since as were granted
pub record AllAnswered (old new : Totals) : Type 0 where
  pub answers : new.acks + new.backs + old.grants ≡ old.acks + old.backs + new.grants
