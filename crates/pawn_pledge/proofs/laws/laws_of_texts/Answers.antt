use Rattle.pawn_pledge.proofs.TextLemmas.{secret_texts_read_back, receipt_texts_read_back, receipt_texts_are_one}
use Rattle.pawn_pledge.proofs.laws.laws_of_texts.Goals as goal

pub returns-clause-secrets : goal.returns-clause-secrets
returns-clause-secrets c = secret_texts_read_back

pub returns-clause-receipts : goal.returns-clause-receipts
returns-clause-receipts c = receipt_texts_read_back

pub returns-clause-one : goal.returns-clause-one
returns-clause-one c = receipt_texts_are_one
