use Rattle.std.proofs.Common.{◌≡◌, ◌+◌, ◌^◌, ◌<◌, length}
use Rattle.qh_text.specs.Lines.{content_from}
use Rattle.qh_text.proofs.content.first_content.Given as goal

abbrev pub invariant-loop-line : goal.invariant-loop-line
invariant-loop-line l = record {
  content : content_from (l.before + 1) l.fn.text ≡ content_from (l.number + 1) l.rest;
  fits : l.number + length l.rest < 2 ^ 64;
}

abbrev pub decreases-loop-line : goal.decreases-loop-line
decreases-loop-line l = length l.rest
