-- The words of each made line.
use Rattle.std.proofs.Common.{◌≡◌, ℕ, ◌<◌, ◌^◌, true, false, List, [], ◌∷◌, ◌++◌, codes, refl, ap, ◌∙◌}
use Rattle.std.specs.Fmt.{decimal}
use Rattle.std.specs.Int.{w32, to_le_bytes}
use Rattle.std.specs.List.{onto_first}
use Rattle.hex.specs.Hex.{encode_lower}
use Rattle.script_words.specs.generator.Lines.{event_text, line_text}
use Rattle.script_words.specs.declared.generator.events.MadeEvent.TheVariants as happens
use Rattle.script_words.specs.declared.generator.lines.MadeLine.TheVariants as made
use Rattle.script_words.specs.Pieces.{pieces}
use Rattle.law_scripts.proofs.generated.Bytes.{alone, decimal_within, hex_within, spaced, word_bytes}

-- a number, and words behind it
numbered : (n : ℕ) (ys : List ℕ) → n < 2 ^ 64 → pieces 32 (decimal n ++ 32 ∷ ys) ≡ decimal n ∷ pieces 32 ys
numbered n ys h = spaced (decimal n) ys (decimal_within n h)

-- ---- events

pub link_words : (k : ℕ) → k < 2 ^ 64 → pieces 32 (event_text (happens.Link k)) ≡ codes "link" ∷ decimal k ∷ []
unfolding event_text
link_words k h = ap (λ (ws : List (List ℕ)). codes "link" ∷ ws) (alone (decimal k) (decimal_within k h))

pub push_words : (k : ℕ) → k < 2 ^ 64 → pieces 32 (event_text (happens.Push k)) ≡ codes "push" ∷ decimal k ∷ []
unfolding event_text
push_words k h = ap (λ (ws : List (List ℕ)). codes "push" ∷ ws) (alone (decimal k) (decimal_within k h))

pub serve_words : (k : ℕ) → k < 2 ^ 64 → pieces 32 (event_text (happens.Serve k)) ≡ codes "serve" ∷ decimal k ∷ []
unfolding event_text
serve_words k h = ap (λ (ws : List (List ℕ)). codes "serve" ∷ ws) (alone (decimal k) (decimal_within k h))

pub cut_words : (k : ℕ) → k < 2 ^ 64 → pieces 32 (event_text (happens.Cut k)) ≡ codes "cut" ∷ decimal k ∷ []
unfolding event_text
cut_words k h = ap (λ (ws : List (List ℕ)). codes "cut" ∷ ws) (alone (decimal k) (decimal_within k h))

pub drop_words : (k : ℕ) → k < 2 ^ 64 → pieces 32 (event_text (happens.Drop k)) ≡ codes "drop" ∷ decimal k ∷ []
unfolding event_text
drop_words k h = ap (λ (ws : List (List ℕ)). codes "drop" ∷ ws) (alone (decimal k) (decimal_within k h))

pub restart_words : pieces 32 (event_text happens.Restart) ≡ codes "restart" ∷ []
unfolding event_text
restart_words = refl

pub settle_words : pieces 32 (event_text happens.Settle) ≡ codes "settle" ∷ []
unfolding event_text
settle_words = refl

pub kept_words : pieces 32 (event_text (happens.Crash true)) ≡ codes "crash" ∷ codes "0" ∷ codes "kept" ∷ []
unfolding event_text
kept_words = refl

pub lost_words : pieces 32 (event_text (happens.Crash false)) ≡ codes "crash" ∷ codes "0" ∷ codes "lost" ∷ []
unfolding event_text
lost_words = refl

-- ---- operations

abbrev behind : List ℕ → List (List ℕ) → List (List ℕ)
behind name ws = codes "op" ∷ name ∷ ws

pub create_words : (file : ℕ) → file < 2 ^ 64
    → pieces 32 (line_text (made.Create file))
    ≡ codes "op" ∷ codes "create" ∷ (102 ∷ decimal file) ∷ codes "rw" ∷ codes "-" ∷ codes "openif" ∷ codes "persist" ∷ []
unfolding line_text
create_words file h =
    ap (λ (ws : List (List ℕ)). behind (codes "create") (onto_first 102 ws)) (numbered file (codes "rw - openif persist") h)

pub write_words : (create at word : ℕ) → create < 2 ^ 64 → at < 2 ^ 64
    → pieces 32 (line_text (made.Write create at word))
    ≡ codes "op" ∷ codes "write" ∷ decimal create ∷ decimal at ∷ encode_lower (to_le_bytes w32 word) ∷ []
unfolding line_text
write_words create at word c a =
    ap (behind (codes "write")) (numbered create (decimal at ++ 32 ∷ encode_lower (to_le_bytes w32 word)) c
    ∙ ap (λ (ws : List (List ℕ)). decimal create ∷ ws) (numbered at (encode_lower (to_le_bytes w32 word)) a
    ∙ ap (λ (ws : List (List ℕ)). decimal at ∷ ws) (alone (encode_lower (to_le_bytes w32 word)) (hex_within (to_le_bytes w32
    word) (word_bytes word)))))

pub lock_words : (create : ℕ) → create < 2 ^ 64
    → pieces 32 (line_text (made.Lock create))
    ≡ codes "op" ∷ codes "lock" ∷ decimal create ∷ codes "0" ∷ codes "10" ∷ codes "exclusive" ∷ []
unfolding line_text
lock_words create c = ap (behind (codes "lock")) (numbered create (codes "0 10 exclusive") c)

pub fill_words : (create at : ℕ) → create < 2 ^ 64 → at < 2 ^ 64
    → pieces 32 (line_text (made.Fill create at))
    ≡ codes "op" ∷ codes "fill" ∷ decimal create ∷ decimal at ∷ codes "50" ∷ codes "61" ∷ []
unfolding line_text
fill_words create at c a =
    ap (behind (codes "fill")) (numbered create (decimal at ++ codes " 50 61") c
    ∙ ap (λ (ws : List (List ℕ)). decimal create ∷ ws) (numbered at (codes "50 61") a))

pub read_words : (create : ℕ) → create < 2 ^ 64
    → pieces 32 (line_text (made.Read create)) ≡ codes "op" ∷ codes "read" ∷ decimal create ∷ codes "0" ∷ codes "200" ∷ []
unfolding line_text
read_words create c = ap (behind (codes "read")) (numbered create (codes "0 200") c)

pub end_words : (create : ℕ) → create < 2 ^ 64
    → pieces 32 (line_text (made.End create)) ≡ codes "op" ∷ codes "end" ∷ decimal create ∷ codes "100" ∷ []
unfolding line_text
end_words create c = ap (behind (codes "end")) (numbered create (codes "100") c)

pub unlock_words : (create : ℕ) → create < 2 ^ 64
    → pieces 32 (line_text (made.Unlock create)) ≡ codes "op" ∷ codes "unlock" ∷ decimal create ∷ codes "0" ∷ codes "10" ∷ []
unfolding line_text
unlock_words create c = ap (behind (codes "unlock")) (numbered create (codes "0 10") c)

pub close_words : (create : ℕ) → create < 2 ^ 64
    → pieces 32 (line_text (made.Close create)) ≡ codes "op" ∷ codes "close" ∷ decimal create ∷ []
unfolding line_text
close_words create c = ap (behind (codes "close")) (alone (decimal create) (decimal_within create c))
