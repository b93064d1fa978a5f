use Rattle.pawn_list_keeper.proofs.PledgePlaces.{reference_here, reference_next, reference_past}
use Rattle.pawn_list_keeper.specs.Common.{PledgeValue, is_same_text}
use Rattle.pawn_pledge.specs.declared.record.Agreement.{Agreement}
use Rattle.std.proofs.Common.{◌≡◌, ◌∙◌, ap, sym, Some, option_map}
use Rattle.pawn_list_keeper.proofs.list_reads.number_with.Goals as goal

pub returns-then-eq : goal.returns-then-eq
returns-then-eq c = record {
  value = (
      let test : c.eq.result ≡ is_same_text c.pledge-item.result.agreement.opening.reference c.args.reference.now =
      c.eq.ensures ∙ ap (λ t. is_same_text t c.as_str-in-loop-pledge.result.now) (c.as_str.ensures.value ∙ ap (λ (a : Agreement). a.opening.reference)
      c.agreement.ensures.value) ∙ ap (λ t. is_same_text c.pledge-item.result.agreement.opening.reference t) c.as_str-in-loop-pledge.ensures.value in
      ap (λ (a : Agreement). Some a.number) c.agreement-then-eq.ensures.value
      ∙ ap (option_map (λ (p : PledgeValue). p.agreement.number)) (sym (reference_here c.args.pledges.now c.args.reference.now c.loop-pledge.pledge-index
      c.pledge-item.result c.loop-pledge-test.true c.pledge-item.is (sym test ∙ c.if-eq.true)) ∙ c.loop-pledge.invariant));
}

pub loop-pledge-preserved : goal.loop-pledge-preserved
loop-pledge-preserved c =
    let test : c.eq.result ≡ is_same_text c.pledge-item.result.agreement.opening.reference c.args.reference.now =
    c.eq.ensures ∙ ap (λ t. is_same_text t c.as_str-in-loop-pledge.result.now) (c.as_str.ensures.value ∙ ap (λ (a : Agreement). a.opening.reference)
    c.agreement.ensures.value) ∙ ap (λ t. is_same_text c.pledge-item.result.agreement.opening.reference t) c.as_str-in-loop-pledge.ensures.value in
    sym (reference_next c.args.pledges.now c.args.reference.now c.loop-pledge.pledge-index c.pledge-item.result c.loop-pledge-test.true c.pledge-item.is
    (sym test ∙ c.if-eq.false)) ∙ c.loop-pledge.invariant

pub returns : goal.returns
returns c = record {
  value = (
      ap (option_map (λ (p : PledgeValue). p.agreement.number))
      (sym (reference_past c.args.pledges.now c.args.reference.now c.loop-pledge.pledge-index c.loop-pledge-test.false) ∙ c.loop-pledge.invariant));
}
