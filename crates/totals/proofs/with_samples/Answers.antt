use mathlib.Core.Path.{◌≡◌, sym, ap, ◌∙◌, subst}
use mathlib.Core.List.{List}
use Prim.Native.Nat.{ℕ, suc, ◌<◌}
use lib.Dec.{lit<}
use Rattle.totals.specs.declared.Total.{Total}
use Rattle.totals.specs.Running.{Room, runnings_of, total_at, channel_next}
use Rattle.totals.specs.Total.{count_limit}
use Rattle.totals.proofs.Running.{taken, taken-all, taken-room}
use Rattle.totals.proofs.with_samples.Goals as goal

-- the call for the channel after c asks for room in its total
room : {t : List Total} (s : List ℕ) (k c : ℕ) → t ≡ taken s k c → k < count_limit → c < 4 → Room (total_at t (suc c))
room s k c e h l = subst (λ (t : List Total). Room (total_at t (suc c))) (sym e) (taken-room s k c h l)

-- and takes that channel's sample
next : {t r : List Total} (s : List ℕ) (k c : ℕ) → t ≡ taken s k c → r ≡ channel_next t s (suc c) k → r ≡ taken s k (suc c)
unfolding taken
next s k c e q = q ∙ ap (λ (t : List Total). channel_next t s (suc c) k) e

first : {t r : List Total} (s : List ℕ) (k : ℕ) → t ≡ runnings_of s k → r ≡ channel_next t s 1 k → r ≡ taken s k 1
unfolding taken
first s k e q = next s k 0 e q

pub with_channel-first-requires : goal.with_channel-first-requires
unfolding taken
with_channel-first-requires c = let p = c.requires in (p.1, room _ _ 0 p.0 p.2 (lit< tt))

pub with_channel-second-requires : goal.with_channel-second-requires
with_channel-second-requires c =
    let p = c.requires in (p.1, room _ _ 1 (first _ _ p.0 c.with_channel-first.ensures) p.2 (lit< tt))

pub with_channel-third-requires : goal.with_channel-third-requires
with_channel-third-requires c =
    let p = c.requires in
    let one = first _ _ p.0 c.with_channel-first.ensures in
    (p.1, room _ _ 2 (next _ _ 1 one c.with_channel-second.ensures) p.2 (lit< tt))

pub with_channel-requires : goal.with_channel-requires
with_channel-requires c =
    let p = c.requires in
    let two = next _ _ 1 (first _ _ p.0 c.with_channel-first.ensures) c.with_channel-second.ensures in
    (p.1, room _ _ 3 (next _ _ 2 two c.with_channel-third.ensures) p.2 (lit< tt))

pub returns : goal.returns
returns c =
    let two = next _ _ 1 (first _ _ c.requires.0 c.with_channel-first.ensures) c.with_channel-second.ensures in
    next _ _ 3 (next _ _ 2 two c.with_channel-third.ensures) c.with_channel.ensures ∙ taken-all _ _
