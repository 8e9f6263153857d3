-- How a tally's side of one ledger stands.
use Rattle.std.specs.Prelude.{◌≡◌, ℕ, ◌+◌, ◌<◌, ◌≤◌, ◌^◌}
use Rattle.qh_lease.specs.declared.ledgers.TheConstants.{LEDGER_PARTS}

-- how many slips are out, what was counted, and what the settled slips counted
pub record Standing : Type 0 where
  pub out : ℕ
  pub total : ℕ
  pub settled : ℕ

-- the blank is that of a ledger of the parts that a tally wants
pub record IsBlankOf (name parts ledger_name ledger_parts : ℕ) : Type 0 where
  pub same_name : name ≡ ledger_name
  pub same_parts : parts ≡ ledger_parts
  pub all_parts : parts ≡ LEDGER_PARTS

-- a slip has one part, whose amount is its count
pub record IsSlip (count parts amount : ℕ) : Type 0 where
  pub one_part : parts ≡ 1
  pub amount_is : amount ≡ count

-- each slip that is out has one part of the ledger, the rest has the others and the settled amount
pub record IsBalanced (ledger_parts out total settled book_total rest_parts rest_amount : ℕ) : Type 0 where
  pub all_parts : ledger_parts ≡ LEDGER_PARTS
  pub parts : out + rest_parts ≡ LEDGER_PARTS
  pub backed : 0 < rest_parts
  pub book_is : book_total ≡ total
  pub rest_is : rest_amount ≡ settled
  pub small : total ≤ 2 ^ 63
