use Rattle.pawn_terms.proofs.TextLemmas.{civil_text-read}
use Rattle.pawn_terms.proofs.day.civil_in.Goals as goal

pub returns-clause-some : goal.returns-clause-some
returns-clause-some c =
    civil_text-read c.args.text.now c.in_ok-century.century c.in_ok-years.years c.in_ok-month.month c.in_ok-day.day c.if-text-ne10.false c.if-text-ne45.false
    c.if-text-ne45-2.false (record { small = c.in_ok-century.ensures.value.0; tens = c.in_ok-century.ensures.value.1; ones = c.in_ok-century.ensures.value.2 })
    (record { small = c.in_ok-years.ensures.value.0; tens = c.in_ok-years.ensures.value.1; ones = c.in_ok-years.ensures.value.2 })
    (record { small = c.in_ok-month.ensures.value.0; tens = c.in_ok-month.ensures.value.1; ones = c.in_ok-month.ensures.value.2 })
    (record { small = c.in_ok-day.ensures.value.0; tens = c.in_ok-day.ensures.value.1; ones = c.in_ok-day.ensures.value.2 })
