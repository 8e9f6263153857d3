use Rattle.qh_narrow.proofs.widen.wider_block.Goals as goal

pub returns-clause-block : goal.returns-clause-block
returns-clause-block g c bits h = record {
  a = c.wider_lanes.ensures.below bits h.a;
  b = c.wider_lanes-2.ensures.below bits h.b;
  c = c.wider_lanes-3.ensures.below bits h.c;
  d = c.wider_lanes-4.ensures.below bits h.d;
}
