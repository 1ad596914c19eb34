-- What is taken into a room in portions is taken in all.
use Rattle.std.proofs.Common.{◌≡◌, ◌≤◌, ℕ, ◌+◌, ◌-◌, arith, ap, subst, ◌∙◌}
use Rattle.std.specs.Prelude.{Option, None, Some, Ok, Err}
use Rattle.sd_ports.specs.Rooms.{TakesRoom, HasTaken, FillsRoom}
use Rattle.sd_ports.specs.declared.fault.PortFault.{PortFault}

-- nothing was taken
pub none_taken : (a : Option ℕ) → HasTaken a a 0
none_taken None = tt
none_taken (Some room) = (omega arith, ap (λ (n : ℕ). Some n) (let e : room ≡ room - 0 = omega arith in e))

-- and then more
pub more_taken : (a b c : Option ℕ) (size done more : ℕ) → HasTaken a b done →
    TakesRoom {E = PortFault} b c size (Ok more) → HasTaken a c (done + more)
more_taken None b c size done more p q = tt
more_taken (Some room) b c size done more p q =
    let then = subst (λ (left : Option ℕ). TakesRoom {E = PortFault} left c size (Ok more)) p.1 q in
    let same : room - done - more ≡ room - (done + more) = omega arith in
    (omega (arith, p.0, then.0), then.1 ∙ ap (λ (n : ℕ). Some n) same)

-- where a piece was not taken, all of the bytes would not have fitted
pub too_long : (a b c : Option ℕ) (size done : ℕ) (fault : PortFault) → done ≤ size → HasTaken a b done →
    TakesRoom {E = PortFault} b c (size - done) (Err fault) → FillsRoom {E = PortFault} a c size (Err fault)
too_long None b c size done fault within p q = tt
too_long (Some room) b c size done fault within p q =
    let then = subst (λ (left : Option ℕ). TakesRoom {E = PortFault} left c (size - done) (Err fault)) p.1 q in
    omega (arith, p.0, then.0, within)
