use Rattle.flow_model.proofs.Books.StatesAreBooks.{state-whole, begin-book}
use Rattle.flow_model.proofs.Books.BooksAllow.{allowed-in, reads-enough}
use Rattle.flow_model.proofs.Books.StepsChangeOneListing.{lawful-book, lawful-listing, other-listings}
use Rattle.flow_model.proofs.stored_laws.books_tell_steps.Goals as goal

pub returns-clause-whole : goal.returns-clause-whole
returns-clause-whole c = state-whole

pub returns-clause-allowed : goal.returns-clause-allowed
returns-clause-allowed c = allowed-in

pub returns-clause-reads : goal.returns-clause-reads
returns-clause-reads c = reads-enough

pub returns-clause-book : goal.returns-clause-book
returns-clause-book c = lawful-book

pub returns-clause-changed : goal.returns-clause-changed
returns-clause-changed c = lawful-listing

pub returns-clause-others : goal.returns-clause-others
returns-clause-others c = other-listings

pub returns-clause-begin : goal.returns-clause-begin
returns-clause-begin c = begin-book
