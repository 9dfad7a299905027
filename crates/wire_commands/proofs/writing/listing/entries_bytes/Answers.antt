use Rattle.std.proofs.Common.{◌≡◌, ℕ, ◌+◌, ◌≤◌, arith, Bool, List, ◌∷◌, ◌++◌, length, drop, map, sym, ap, ◌∙◌}
use Rattle.std.specs.Prelude.{nat_lt}
use Rattle.std.proofs.lemmas.List.{length-map, append-nil}
use Rattle.std.proofs.Math.ListN.{drop_of_length-le}
use Rattle.spec_wire.specs.messages.Directory.{listing_spelling}
use Rattle.wire_info.specs.classes.Listing.{entry_if}
use Rattle.spec_exchange.specs.State as says
use Rattle.spec_commands.specs.Infos.{entry_of, entries_of}
use Rattle.wire_commands.specs.values.Meaning.{named_of}
use Rattle.spec_commands.specs.Fits.{AreListed}
use Rattle.wire_commands.proofs.values.Places.{front_is}
use Rattle.wire_commands.proofs.writing.Listed.{entries_go_on, listed_at, listed_on, listed_end}
use Rattle.wire_commands.proofs.writing.Refused.{refused}
use Rattle.wire_commands.proofs.writing.listing.entries_bytes.Goals as goal

pub returns-in-Err : goal.returns-in-Err
returns-in-Err c =
    let ns : List says.Named = map named_of c.args.entries.now in
    let n : says.Named = named_of c.index-entries-at.result in
    let front : drop c.loop-at.at ns ≡ n ∷ drop (c.loop-at.at + 1) ns = front_is named_of c.args.entries.now c.loop-at.at
    c.index-entries-at.result c.index-entries-at.is c.loop-at-test.true in
    refused (AreListed ns) _ c.in-Err.error (λ are. listed_at ns c.loop-at.at n (drop (c.loop-at.at + 1) ns) are front) c.in-Err.ensures

pub loop-at-preserved : goal.loop-at-preserved
loop-at-preserved c =
    let ns : List says.Named = map named_of c.args.entries.now in
    let n : says.Named = named_of c.index-entries-at.result in
    let front : drop c.loop-at.at ns ≡ n ∷ drop (c.loop-at.at + 1) ns = front_is named_of c.args.entries.now c.loop-at.at
    c.index-entries-at.result c.index-entries-at.is c.loop-at-test.true in
    let more : c.has_more-more.result ≡ nat_lt (c.loop-at.at + 1) (length ns) = c.has_more-more.ensures
    ∙ ap (λ (k : ℕ). nat_lt (c.loop-at.at + 1) k) (sym (length-map c.args.entries.now named_of)) in
    let put : c.put_named.new.out ≡ c.loop-at.out ++ entry_if (nat_lt (c.loop-at.at + 1) (length ns)) c.args.class
    (entry_of c.args.class n) =
    c.in-Ok.ensures.1 ∙ ap (λ (b : Bool). c.loop-at.out ++ entry_if b c.args.class (entry_of c.args.class n)) more in (
      rw put (entries_go_on c.args.class ns n c.loop-at.at c.loop-at.out front c.loop-at.invariant.0),
      listed_on ns c.loop-at.at n front c.in-Ok.ensures.0 c.loop-at.invariant.1,
    )

pub returns : goal.returns
returns c =
    let ns : List says.Named = map named_of c.args.entries.now in
    let past : length ns ≤ c.loop-at.at = omega (arith, length-map c.args.entries.now named_of, c.loop-at-test.false) in (
      listed_end ns c.loop-at.at past c.loop-at.invariant.1,
      c.finish.ensures ∙ sym (c.loop-at.invariant.0 ∙ ap (λ (ms : List says.Named). c.loop-at.out ++ listing_spelling
          c.args.class (entries_of c.args.class ms)) (drop_of_length-le ns past) ∙ append-nil c.loop-at.out),
    )
