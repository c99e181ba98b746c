use Rattle.p9_ready.proofs.functions.are_plain.Goals as goal

pub returns : goal.returns
returns c = (
  λ t k d l. let h = c.all_plain.ensures.0 t k d l in (h.no_system_call, h.no_home),
  λ p. c.all_plain.ensures.1 (λ k d l. let h = p k d l in record { no_system_call = h.0; no_home = h.1 }),
)
