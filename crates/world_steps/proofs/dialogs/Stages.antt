-- The stage of a dialog in code, by that of its end.
use Rattle.std.proofs.Common.{◌≡◌, ℕ, Bool, false, refl, sym, ap, subst}
use Rattle.spec_exchange.specs.Client.{Stage, Apart, SaidNegotiate, SaidFirst, SaidSecond, AskedTree}
use Rattle.client_ends.specs.ends.Shown.{IsStage}
use Rattle.client_ends.specs.declared.ends.dialog.Stage.{Stage as DialogStage}
use Rattle.client_ends.specs.declared.ends.dialog.Stage.TheVariants as stages
use Rattle.world_ends.specs.Channels.{ChannelGoesOn}
use Rattle.world_steps.proofs.dialogs.Judged.{IsAsked}

pub goes_by : (s : DialogStage) (b : Bool) (t : Stage) → IsStage s b t → IsAsked t → ChannelGoesOn s
goes_by stages.SaidNegotiate b t e a = tt
goes_by stages.SaidFirst b t e a = tt
goes_by stages.SaidSecond b t e a = tt
goes_by stages.AskedTree b t e a = tt
goes_by stages.Joined b t e a = absurd (subst (λ (v : Stage). IsAsked v) e a)
goes_by (stages.Refused why) b t e a = absurd e
goes_by stages.Over b t e a = absurd e

-- an end that goes on is asked
pub asked_by : (s : DialogStage) (b : Bool) (t : Stage) → IsStage s b t → ChannelGoesOn s → IsAsked t
asked_by stages.SaidNegotiate b t e g = subst (λ (v : Stage). IsAsked v) (sym e) tt
asked_by stages.SaidFirst b t e g = subst (λ (v : Stage). IsAsked v) (sym e) tt
asked_by stages.SaidSecond b t e g = subst (λ (v : Stage). IsAsked v) (sym e) tt
asked_by stages.AskedTree b t e g = subst (λ (v : Stage). IsAsked v) (sym e) tt
asked_by stages.Joined b t e g = absurd g
asked_by (stages.Refused why) b t e g = absurd g
asked_by stages.Over b t e g = absurd g

-- ---- each stage, as a number

abbrev number : Stage → ℕ
number Apart = 0
number (SaidNegotiate b) = 1
number (SaidFirst b) = 2
number (SaidSecond b) = 3
number AskedTree = 4

pub greets_as : (s : DialogStage) (b c : Bool) → IsStage s b (SaidNegotiate c) → s ≡ stages.SaidNegotiate
greets_as stages.SaidNegotiate b c e = refl
greets_as stages.SaidFirst b c e = absurd (let n : 1 ≡ 2 = ap number e in cc)
greets_as stages.SaidSecond b c e = absurd (let n : 1 ≡ 3 = ap number e in cc)
greets_as stages.AskedTree b c e = absurd (let n : 1 ≡ 4 = ap number e in cc)
greets_as stages.Joined b c e = absurd (let n : 1 ≡ 0 = ap number e in cc)
greets_as (stages.Refused why) b c e = absurd e
greets_as stages.Over b c e = absurd e

pub first_as : (s : DialogStage) (b c : Bool) → IsStage s b (SaidFirst c) → s ≡ stages.SaidFirst
first_as stages.SaidNegotiate b c e = absurd (let n : 2 ≡ 1 = ap number e in cc)
first_as stages.SaidFirst b c e = refl
first_as stages.SaidSecond b c e = absurd (let n : 2 ≡ 3 = ap number e in cc)
first_as stages.AskedTree b c e = absurd (let n : 2 ≡ 4 = ap number e in cc)
first_as stages.Joined b c e = absurd (let n : 2 ≡ 0 = ap number e in cc)
first_as (stages.Refused why) b c e = absurd e
first_as stages.Over b c e = absurd e

pub second_as : (s : DialogStage) (b c : Bool) → IsStage s b (SaidSecond c) → s ≡ stages.SaidSecond
second_as stages.SaidNegotiate b c e = absurd (let n : 3 ≡ 1 = ap number e in cc)
second_as stages.SaidFirst b c e = absurd (let n : 3 ≡ 2 = ap number e in cc)
second_as stages.SaidSecond b c e = refl
second_as stages.AskedTree b c e = absurd (let n : 3 ≡ 4 = ap number e in cc)
second_as stages.Joined b c e = absurd (let n : 3 ≡ 0 = ap number e in cc)
second_as (stages.Refused why) b c e = absurd e
second_as stages.Over b c e = absurd e

pub asks_as : (s : DialogStage) (b : Bool) → IsStage s b AskedTree → s ≡ stages.AskedTree
asks_as stages.SaidNegotiate b e = absurd (let n : 4 ≡ 1 = ap number e in cc)
asks_as stages.SaidFirst b e = absurd (let n : 4 ≡ 2 = ap number e in cc)
asks_as stages.SaidSecond b e = absurd (let n : 4 ≡ 3 = ap number e in cc)
asks_as stages.AskedTree b e = refl
asks_as stages.Joined b e = absurd (let n : 4 ≡ 0 = ap number e in cc)
asks_as (stages.Refused why) b e = absurd e
asks_as stages.Over b e = absurd e

-- ---- whether it binds

abbrev binds : Stage → Bool
binds Apart = false
binds (SaidNegotiate b) = b
binds (SaidFirst b) = b
binds (SaidSecond b) = b
binds AskedTree = false

pub bound_greeting : (s : DialogStage) (b c : Bool) → s ≡ stages.SaidNegotiate → IsStage s b (SaidNegotiate c) → c ≡ b
bound_greeting s b c e i = ap binds (subst (λ (v : DialogStage). IsStage v b (SaidNegotiate c)) e i)

pub bound_first : (s : DialogStage) (b c : Bool) → s ≡ stages.SaidFirst → IsStage s b (SaidFirst c) → c ≡ b
bound_first s b c e i = ap binds (subst (λ (v : DialogStage). IsStage v b (SaidFirst c)) e i)

pub bound_second : (s : DialogStage) (b c : Bool) → s ≡ stages.SaidSecond → IsStage s b (SaidSecond c) → c ≡ b
bound_second s b c e i = ap binds (subst (λ (v : DialogStage). IsStage v b (SaidSecond c)) e i)
