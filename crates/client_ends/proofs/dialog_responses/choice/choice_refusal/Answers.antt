use Rattle.std.proofs.Common.{◌==◌, true, false}
use Rattle.spec_world.specs.Dialog.{was_offered}
use Rattle.client_ends.specs.ends.Shown.{settings_of}
use Rattle.client_ends.proofs.dialog_responses.Offered.{by_cipher, by_dialect, by_hash, by_none, by_sha512, by_signing}
use Rattle.client_ends.proofs.dialog_responses.Offered.{is_other, is_same, offered_as}
use Rattle.client_ends.proofs.dialog_responses.choice.choice_refusal.Goals as goal

pub returns-then-dialect-ne785 : goal.returns-then-dialect-ne785
returns-then-dialect-ne785 c =
    let x = settings_of c.args.config.now in
    let t = c.args.told.now in
    by_dialect (c.args.dialect == 0x311) t.sha512 (c.args.hashes == 1) (was_offered x.ciphers t.ciphers)
    (was_offered x.signings t.signings)
    (is_other c.args.dialect 0x311 c.if-dialect-ne785.true)

pub returns-then-not-told : goal.returns-then-not-told
returns-then-not-told c =
    let x = settings_of c.args.config.now in
    let t = c.args.told.now in
    by_sha512 (c.args.dialect == 0x311) t.sha512 (c.args.hashes == 1) (was_offered x.ciphers t.ciphers)
    (was_offered x.signings t.signings) (is_same c.args.dialect 0x311 c.if-dialect-ne785.false)
    c.if-not-told.true

pub returns-then-hashes-ne1 : goal.returns-then-hashes-ne1
returns-then-hashes-ne1 c =
    let x = settings_of c.args.config.now in
    let t = c.args.told.now in
    by_hash (c.args.dialect == 0x311) t.sha512 (c.args.hashes == 1) (was_offered x.ciphers t.ciphers)
    (was_offered x.signings t.signings) (is_same c.args.dialect 0x311 c.if-dialect-ne785.false)
    c.if-not-told.false (is_other c.args.hashes 1 c.if-hashes-ne1.true)

pub returns-then-not-was_offered : goal.returns-then-not-was_offered
returns-then-not-was_offered c =
    let x = settings_of c.args.config.now in
    let t = c.args.told.now in
    by_cipher (c.args.dialect == 0x311) t.sha512 (c.args.hashes == 1) (was_offered x.ciphers t.ciphers)
    (was_offered x.signings t.signings) (is_same c.args.dialect 0x311 c.if-dialect-ne785.false)
    c.if-not-told.false (is_same c.args.hashes 1 c.if-hashes-ne1.false)
    (offered_as c.as_slice.result.now c.as_slice-2.result.now x.ciphers t.ciphers c.was_offered.result false
    c.as_slice.ensures c.as_slice-2.ensures c.was_offered.ensures c.if-not-was_offered.true)

pub returns-then-not-was_offered-2 : goal.returns-then-not-was_offered-2
returns-then-not-was_offered-2 c =
    let x = settings_of c.args.config.now in
    let t = c.args.told.now in
    by_signing (c.args.dialect == 0x311) t.sha512 (c.args.hashes == 1) (was_offered x.ciphers t.ciphers)
    (was_offered x.signings t.signings) (is_same c.args.dialect 0x311 c.if-dialect-ne785.false)
    c.if-not-told.false (is_same c.args.hashes 1 c.if-hashes-ne1.false)
    (offered_as c.as_slice.result.now c.as_slice-2.result.now x.ciphers t.ciphers c.was_offered.result true
    c.as_slice.ensures c.as_slice-2.ensures c.was_offered.ensures c.if-not-was_offered.false)
    (offered_as c.as_slice-3.result.now c.as_slice-4.result.now x.signings t.signings c.was_offered-2.result false
    c.as_slice-3.ensures c.as_slice-4.ensures c.was_offered-2.ensures c.if-not-was_offered-2.true)

pub returns : goal.returns
returns c =
    let x = settings_of c.args.config.now in
    let t = c.args.told.now in
    by_none (c.args.dialect == 0x311) t.sha512 (c.args.hashes == 1) (was_offered x.ciphers t.ciphers)
    (was_offered x.signings t.signings) (is_same c.args.dialect 0x311 c.if-dialect-ne785.false)
    c.if-not-told.false (is_same c.args.hashes 1 c.if-hashes-ne1.false)
    (offered_as c.as_slice.result.now c.as_slice-2.result.now x.ciphers t.ciphers c.was_offered.result true
    c.as_slice.ensures c.as_slice-2.ensures c.was_offered.ensures c.if-not-was_offered.false)
    (offered_as c.as_slice-3.result.now c.as_slice-4.result.now x.signings t.signings c.was_offered-2.result true
    c.as_slice-3.ensures c.as_slice-4.ensures c.was_offered-2.ensures c.if-not-was_offered-2.false)
