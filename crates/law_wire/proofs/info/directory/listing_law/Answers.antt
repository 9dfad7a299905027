use Rattle.spec_wire.specs.messages.Directory.{SpellsDirectoryEntry, first_entry_fault}
use Rattle.law_wire.proofs.info.Chains.{same_items, no_break, same_break}
use Rattle.law_wire.proofs.info.OneEntry.{same_entry, whole_first_entry, no_entry}
use Rattle.law_wire.proofs.info.EntryChain.{listing_again}
use Rattle.law_wire.proofs.info.directory.listing_law.Goals as goal

pub returns-clause-one : goal.returns-clause-one
returns-clause-one c = λ k m vs ws s t. same_items (SpellsDirectoryEntry k) (same_entry k) (no_entry k) m vs ws s t

pub returns-clause-whole : goal.returns-clause-whole
returns-clause-whole c = λ k m vs e s b. no_break (SpellsDirectoryEntry k) (first_entry_fault k) (whole_first_entry k) m e vs s b

pub returns-clause-broken : goal.returns-clause-broken
returns-clause-broken c = λ k m e f s t. same_break (first_entry_fault k) m e f s t

pub returns-clause-again : goal.returns-clause-again
returns-clause-again c = listing_again
