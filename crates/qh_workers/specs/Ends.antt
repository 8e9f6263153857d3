-- Why a worker ends, and where its gate holds it back.
use Rattle.std.specs.Prelude.{⊤, ℕ, ◌⊎◌}
use Rattle.qh_workers.specs.declared.ended.Ended.{Ended}
use Rattle.qh_workers.specs.declared.ended.Ended.TheVariants.{Drained, Quit, Memory, Halted}
use Rattle.qh_workers.specs.declared.gate.Point.{Point}
use Rattle.qh_workers.specs.declared.gate.Point.TheVariants.{Computing, BeforeDeliver}

-- Drained, Quit and Halted come only where these facts hold; want of memory rests on none
abbrev pub EndCause : Type 0 → Type 0 → Type 0 → Ended → Type 0
EndCause drain quit halt Drained = drain
EndCause drain quit halt Quit = quit
EndCause drain quit halt Memory = ⊤
EndCause drain quit halt Halted = halt

-- a gate that stops a worker at these points stops it before it evaluates a range, or before it delivers the range's result
abbrev pub IsHeld : (Point → Type 0) → ℕ → Type 0
IsHeld stops range = stops (Computing range) ⊎ stops (BeforeDeliver range)
