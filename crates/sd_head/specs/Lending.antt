-- Public meaning: what is lent of a period's packets.
use Rattle.std.specs.Prelude.{ℕ, List}
use Rattle.std.specs.Borrow.{Lends, MutBor, Fml, Array, u8}
use Rattle.std.specs.Vec.{with_items}
use Rattle.sd_head.specs.declared.entitling.Entitling.{Entitling}
use Rattle.sd_head.specs.contracts.entitling.Entitling.{the_row}

-- the packets are those that are left behind the reference
abbrev pub with_emms : Entitling → List (List ℕ) → Entitling
with_emms state packets = record state { emms = with_items state.emms packets }

abbrev pub LendsPackets : MutBor Entitling → MutBor (List (List ℕ)) → Fml
LendsPackets state lent = Lends the_row (Array (Array u8 188) 0) state lent (with_emms state.now)
