use Rattle.pawn_list_keeper.specs.Common.{Each, IsReachable, PledgeValue, most_terms, pledge_row_count}
use Rattle.std.proofs.Common.{◌≡◌, ◌≤◌, ◌+◌, ◌*◌, drop, length, sum_by}
use Rattle.pawn_list_keeper.proofs.list_import.count_rows.Given as goal

abbrev pub invariant-loop-pledge : goal.invariant-loop-pledge
invariant-loop-pledge l = record {
  counted : l.count + sum_by pledge_row_count (drop l.pledge-index l.rows.pledges) ≡ length l.rows.terms + sum_by pledge_row_count l.rows.pledges;
  few : l.count ≤ most_terms + 20000 * l.pledge-index;
  reachable : Each {X = PledgeValue} IsReachable (drop l.pledge-index l.rows.pledges);
}
