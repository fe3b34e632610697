use Rattle.std.proofs.Common.{refl}
use Rattle.flow_model.proofs.Books.BooksTellNext.{next-same, next_at-same, next-reads, next_at-reads}
use Rattle.flow_model.proofs.stored_laws.books_tell_next.Goals as goal

pub returns-clause-next : goal.returns-clause-next
returns-clause-next c = next-same

pub returns-clause-next_at : goal.returns-clause-next_at
returns-clause-next_at c = next_at-same

pub returns-clause-end : goal.returns-clause-end
returns-clause-end c s t = refl

pub returns-clause-reads : goal.returns-clause-reads
returns-clause-reads c = next-reads

pub returns-clause-reads_at : goal.returns-clause-reads_at
returns-clause-reads_at c = next_at-reads
