-- A message in which the fields of a value stand reads as that value.
use Rattle.std.proofs.Common.{◌≡◌, ℕ, ◌+◌, ◌≤◌, ◌==◌, nat_lt, nat_le, Bool, true, false, ◌||◌, List, [], length, refl}
use Rattle.std.proofs.Common.{arith, subst, None, Ok}
use Rattle.std.proofs.lemmas.List.{append-nil}
use Rattle.std.proofs.lemmas.Bool.Decides.{nat_tests}
use Rattle.spec_wire.specs.messages.Places.{number, bytes_at}
use Rattle.spec_wire.specs.messages.Table.{Stands}
use Rattle.law_wire.proofs.messages.Rows.{row_stands}
use Rattle.spec_crypto.specs.declared.tokens.ntlm.Type1.{Type1}
use Rattle.spec_crypto.specs.declared.tokens.ntlm.NtlmField.{NtlmField}
use Rattle.spec_crypto.specs.declared.tokens.ntlm.NtlmField.TheVariants.{Lm, Nt, Domain, User, Workstation, SessionKey}
use Rattle.spec_crypto.specs.declared.tokens.ntlm.NtlmField.TheVariants.{TargetName, TargetInfo}
use Rattle.spec_crypto.specs.tokens.Messages.{Type2Value, Type3Value, ntlm_signature, start_fault, range_fault, type1_in}
use Rattle.spec_crypto.specs.tokens.Messages.{type2_in, type3_in, type1_table, type2_table, type3_table, type1_spelling}
use Rattle.spec_crypto.specs.tokens.Messages.{type2_spelling, type3_spelling, IsWritableType1, IsWritableType2, IsWritableType3}
use Rattle.spec_crypto.specs.tokens.Messages.{nt_at, domain_at, user_at, workstation_at, session_key_at}
use Rattle.law_crypto.specs.ntlm.Fitting.{HasPairs2, HasPairs3}

start_fits : (m : List ℕ) (fixed type : ℕ) → fixed ≤ length m → bytes_at 8 m 0 ≡ ntlm_signature → number 4 m 8 ≡ type →
    start_fault m fixed type ≡ None
unfolding start_fault
start_fits m fixed type long front kind =
    let whole : nat_lt (length m) fixed ≡ false = grind (arith, nat_tests) in
    let same : (type == type) ≡ true = grind (arith, nat_tests) in
    rw (whole, front, kind, same) refl

or_true : (b : Bool) → (b || true) ≡ true
or_true true = refl
or_true false = refl

range_fits : (m : List ℕ) (count from : ℕ) (field : NtlmField) → from + count ≤ length m → range_fault m count from field ≡ None
unfolding range_fault
range_fits m count from field fits =
    let inside : nat_le (from + count) (length m) ≡ true = grind (arith, nat_tests) in
    rw (inside, or_true (count == 0)) refl

type1_reads : (m : List ℕ) (v : Type1) → Stands m 0 (type1_table v) → type1_in m ≡ Ok v
type1_reads m v s =
    let start = start_fits m 16 1 (let e = s.1.1.1 in omega arith) s.0 s.1.0 in
    rw (start, s.1.1.0) refl

pub type1_again : (v : Type1) → IsWritableType1 v → type1_in (type1_spelling v) ≡ Ok v
type1_again v w = type1_reads (type1_spelling v) v (subst (λ (m : List ℕ). Stands m 0 (type1_table v)) (append-nil
    (type1_spelling v)) (row_stands (type1_table v) [] [] 0 refl w))

type2_reads : (m : List ℕ) (v : Type2Value) → Stands m 0 (type2_table v) → HasPairs2 v → type2_in m ≡ Ok v
type2_reads m v (
  front,
  (
    kind,
    (
      name,
      (
        most,
        (
          name_at,
          (
            flags,
            (
              challenge,
              (
                info,
                (
                  info_most,
                  (
                    info_at,
                    (
                      name_is,
                      (info_is, end),
                    ),
                  ),
                ),
              ),
            ),
          ),
        ),
      ),
    ),
  ),
) pairs =
    let start = start_fits m 56 2 (omega arith) front kind in
    let names = range_fits m (length v.target_name) 56 TargetName (omega arith) in
    let infos = range_fits m (length v.target_info) (56 + length v.target_name) TargetInfo (omega arith) in
    rw (start, name, name_at, info, info_at, names, infos, name_is, info_is, pairs, flags, challenge) refl

pub type2_again : (v : Type2Value) → IsWritableType2 v → HasPairs2 v → type2_in (type2_spelling v) ≡ Ok v
unfolding type2_spelling
type2_again v w pairs = type2_reads (type2_spelling v) v (subst (λ (m : List ℕ). Stands m 0 (type2_table v)) (append-nil
    (type2_spelling v)) (row_stands (type2_table v) [] [] 0 refl w)) pairs

type3_reads : (m : List ℕ) (v : Type3Value) → Stands m 0 (type3_table v) → HasPairs3 v → type3_in m ≡ Ok v
type3_reads m v (
  front,
  (
    kind,
    (
      lm,
      (
        lm_most,
        (
          lm_at,
          (
            nt,
            (
              nt_most,
              (
                nt_place,
                (
                  domain,
                  (
                    domain_most,
                    (
                      domain_place,
                      (
                        user,
                        (
                          user_most,
                          (
                            user_place,
                            (
                              workstation,
                              (
                                workstation_most,
                                (
                                  workstation_place,
                                  (
                                    key,
                                    (
                                      key_most,
                                      (
                                        key_place,
                                        (flags, (mic, (lm_is, (nt_is, (domain_is, (user_is, (workstation_is, (key_is, end)))))))),
                                      ),
                                    ),
                                  ),
                                ),
                              ),
                            ),
                          ),
                        ),
                      ),
                    ),
                  ),
                ),
              ),
            ),
          ),
        ),
      ),
    ),
  ),
) pairs
    =
    let start = start_fits m 88 3 (omega arith) front kind in
    let lms = range_fits m (length v.lm) 88 Lm (omega arith) in
    let nts = range_fits m (length v.nt) (nt_at v) Nt (omega arith) in
    let domains = range_fits m (length v.domain) (domain_at v) Domain (omega arith) in
    let users = range_fits m (length v.user) (user_at v) User (omega arith) in
    let workstations = range_fits m (length v.workstation) (workstation_at v) Workstation (omega arith) in
    let keys = range_fits m (length v.session_key) (session_key_at v) SessionKey (omega arith) in
    rw (
      start,
      lm,
      lm_at,
      nt,
      nt_place,
      domain,
      domain_place,
      user,
      user_place,
      workstation,
      workstation_place,
      key,
      key_place,
      lms,
      nts,
      domains,
      users,
      workstations,
      keys,
      lm_is,
      nt_is,
      domain_is,
      user_is,
      workstation_is,
      key_is,
      pairs,
      flags,
      mic,
    ) refl

pub type3_again : (v : Type3Value) → IsWritableType3 v → HasPairs3 v → type3_in (type3_spelling v) ≡ Ok v
unfolding type3_spelling
type3_again v w pairs = type3_reads (type3_spelling v) v (subst (λ (m : List ℕ). Stands m 0 (type3_table v)) (append-nil
    (type3_spelling v)) (row_stands (type3_table v) [] [] 0 refl w)) pairs
