use Rattle.std.proofs.Common.{rules}
use Rattle.sd_head.proofs.Beginning.{none_known, first_near, first_positions, first_pids, first_marks}
use Rattle.sd_head.proofs.make.empty.Goals as goal

pub invariant_of-result-clause-pids_known : goal.invariant_of-result-clause-pids_known
invariant_of-result-clause-pids_known c =
    none_known c.in_ok-with_capacity.field-0.items c.in_ok-with_capacity.ensures.items

pub invariant_of-result-clause-positions_near : goal.invariant_of-result-clause-positions_near
invariant_of-result-clause-positions_near c =
    first_near c.in_ok-vec.field-0.items (c.in_ok-vec.ensures.items_if_clones_equal (λ position is. is))

pub returns : goal.returns
returns c = record {
  number = search rules;
  placed = first_positions c.in_ok-vec.field-0.items (c.in_ok-vec.ensures.items_if_clones_equal (λ position is. is));
  moved = first_pids c.in_ok-with_capacity.field-0.items c.in_ok-with_capacity.ensures.items;
  marked = first_marks c.in_ok-vec-2.field-0.items (c.in_ok-vec-2.ensures.items_if_clones_equal (λ mark is. is));
}
