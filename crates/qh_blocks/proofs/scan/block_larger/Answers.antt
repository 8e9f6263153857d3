use Rattle.qh_blocks.proofs.scan.block_larger.Goals as goal

pub larger-requires-clause-below : goal.larger-requires-clause-below
larger-requires-clause-below g c = c.larger-first.ensures.above g.V.Vector.ROOM c.requires.a c.requires.b

pub larger-requires-clause-other : goal.larger-requires-clause-other
larger-requires-clause-other g c = c.larger-second.ensures.above g.V.Vector.ROOM c.requires.c c.requires.d

pub returns-clause-above : goal.returns-clause-above
returns-clause-above g c b h = c.larger.ensures.above b (c.larger-first.ensures.above b h.a h.b) (c.larger-second.ensures.above b h.c h.d)

pub returns-clause-below : goal.returns-clause-below
returns-clause-below g c b h = record {
  a = c.larger-first.ensures.self_below b (c.larger.ensures.self_below b h);
  b = c.larger-first.ensures.other_below b (c.larger.ensures.self_below b h);
  c = c.larger-second.ensures.self_below b (c.larger.ensures.other_below b h);
  d = c.larger-second.ensures.other_below b (c.larger.ensures.other_below b h);
}
