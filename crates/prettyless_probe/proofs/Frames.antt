-- Nodes in frames: a node more, a frame opened and left, a part at the bottom.
use Rattle.std.proofs.Common.{◌≡◌, ℕ, ◌+◌, ◌-◌, ◌<◌, ◌≤◌, List, [], ◌∷◌, ◌++◌, map, take, drop, get_or, min, length, refl, ap, sym, ◌∙◌}
use Rattle.std.proofs.Common.{subst, append_assoc, append-nil, arith, length-append, length-drop}
use Rattle.std.proofs.lemmas.List.{map-append, length-map, length-take, take_all, take_at, take_min, take_more, take-append-le}
use Rattle.std.proofs.lemmas.List.{take-append-drop, drop_all, drop-append-le}
use Rattle.prettyless_probe.specs.Frames.{framed, lowest, spread, Rises}
use Rattle.prettyless_probe.specs.declared.command.Command.{Command}
use Rattle.prettyless_probe.specs.declared.command.Frame.{Frame}

-- no frame is above the last one
lowest_low : (xs : List Frame) (here : Frame) → Rises xs here → lowest xs here ≤ here.below
lowest_low [] here r = omega arith
lowest_low (x ∷ xs) here r = omega (arith, r.0, lowest_low xs here r.1)

lowest_open : (xs : List Frame) (here new : Frame) → lowest (xs ++ here ∷ []) new ≡ lowest xs here
lowest_open [] here new = refl
lowest_open (x ∷ xs) here new = refl

pub lowest_at : (xs : List Frame) (here other : Frame) → other.below ≡ here.below → lowest xs other ≡ lowest xs here
lowest_at [] here other e = e
lowest_at (x ∷ xs) here other e = refl

pub rises_open : (xs : List Frame) (here new : Frame) → Rises xs here → here.below < new.below → Rises (xs ++ here ∷ []) new
rises_open [] here new r l = (l, tt)
rises_open (x ∷ xs) here new r l = (omega (arith, r.0, lowest_open xs here new), rises_open xs here new r.1 l)

pub rises_left : (xs : List Frame) (below here : Frame) → Rises (xs ++ below ∷ []) here → Rises xs below × (below.below < here.below)
rises_left [] below here r = (tt, r.0)
rises_left (x ∷ xs) below here r =
    let k = rises_left xs below here r.1 in
    ((omega (arith, r.0, lowest_open xs below here), k.0), k.1)

pub rises_at : (xs : List Frame) (here other : Frame) → other.below ≡ here.below → Rises xs here → Rises xs other
rises_at [] here other e r = tt
rises_at (x ∷ xs) here other e r = (omega (arith, r.0, lowest_at xs here other e), rises_at xs here other e r.1)

-- more nodes are in the last frame
pub spread-append : {N : Type 0} (xs : List Frame) (here : Frame) (ns ms : List N) → Rises xs here → here.below ≤ length ns →
    spread xs here (ns ++ ms) ≡ spread xs here ns ++ map (framed here) ms
spread-append {N} [] here ns ms r l = ap (map (framed here)) (drop-append-le here.below ns ms l)
    ∙ map-append (framed here) (drop here.below ns) ms
spread-append {N} (x ∷ xs) here ns ms r l =
    let low : lowest xs here ≤ length ns = omega (arith, lowest_low xs here r.1, l) in
    let first : List (Command N) = map (framed x) (drop x.below (take (lowest xs here) ns)) in
    ap (λ (t : List N). map (framed x) (drop x.below t) ++ spread xs here (ns ++ ms)) (take-append-le (lowest xs here) ns ms low)
    ∙ ap (λ (t : List (Command N)). first ++ t) (spread-append xs here ns ms r.1 l)
    ∙ sym (append_assoc first (spread xs here ns) (map (framed here) ms))

-- each node is in one frame
pub length-spread : {N : Type 0} (xs : List Frame) (here : Frame) (ns : List N) → Rises xs here → here.below ≤ length ns
    → length (spread xs here ns) + lowest xs here ≡ length ns
length-spread {N} [] here ns r l = omega (arith, length-map (drop here.below ns) (framed here), length-drop here.below ns, l)
length-spread {N} (x ∷ xs) here ns r l =
    let low = lowest_low xs here r.1 in
    let part : List N = take (lowest xs here) ns in
    omega (
      arith,
      length-append (map (framed x) (drop x.below part)) (spread xs here ns),
      length-map (drop x.below part) (framed x),
      length-drop x.below part,
      length-take (lowest xs here) ns,
      length-spread xs here ns r.1 l,
      r.0,
      low,
      l,
    )

-- a new frame that has no node yet
pub spread_open : {N : Type 0} (xs : List Frame) (here new : Frame) (ns : List N) → new.below ≡ length ns
    → spread (xs ++ here ∷ []) new ns ≡ spread xs here ns
spread_open {N} [] here new ns e =
    ap (λ (t : List N). map (framed here) (drop here.below t) ++ map (framed new) (drop new.below ns))
    (take_all new.below ns (omega (arith, e)))
    ∙ ap (λ (t : List N). map (framed here) (drop here.below ns) ++ map (framed new) t) (drop_all new.below ns (omega (arith, e)))
    ∙ append-nil (map (framed here) (drop here.below ns))
spread_open {N} (x ∷ xs) here new ns e =
    ap (λ (k : ℕ). map (framed x) (drop x.below (take k ns)) ++ spread (xs ++ here ∷ []) new ns) (lowest_open xs here new)
    ∙ ap (λ (t : List (Command N)). map (framed x) (drop x.below (take (lowest xs here) ns)) ++ t) (spread_open xs here new ns e)

-- another frame in the place of one that has no node
pub spread_at : {N : Type 0} (xs : List Frame) (here other : Frame) (ns : List N) → here.below ≡ length ns → other.below ≡ here.below
    → spread xs other ns ≡ spread xs here ns
spread_at {N} [] here other ns l e =
    ap (map (framed other)) (drop_all other.below ns (omega (arith, l, e)))
    ∙ sym (ap (map (framed here)) (drop_all here.below ns (omega (arith, l))))
spread_at {N} (x ∷ xs) here other ns l e =
    ap (λ (k : ℕ). map (framed x) (drop x.below (take k ns)) ++ spread xs other ns) (lowest_at xs here other e)
    ∙ ap (λ (t : List (Command N)). map (framed x) (drop x.below (take (lowest xs here) ns)) ++ t) (spread_at xs here other ns l e)

-- the nodes at the bottom, from the last frame on
pub spread_take : {N : Type 0} (xs : List Frame) (here : Frame) (ns : List N) (k : ℕ) → lowest xs here ≡ 0 → Rises xs here
    → here.below ≤ length ns → here.below ≤ k →
    spread xs here (take k ns) ≡ take k (spread xs here ns)
spread_take {N} xs here ns k b r l h =
    let front : List N = take k ns in
    let back : List N = drop k ns in
    let part = length-take k ns in
    let whole = length-spread xs here ns r l in
    let some = length-spread xs here front r (omega (arith, part, l, h)) in
    let split : spread xs here ns ≡ spread xs here front ++ map (framed here) back = ap (spread xs here) (sym (take-append-drop k ns))
    ∙ spread-append xs here front back r (omega (arith, part, l, h)) in
    sym (take_at (spread xs here front) (map (framed here) back) (min k (length (spread xs here ns))) (omega (arith, part, whole, some, b)))
    ∙ ap (take (min k (length (spread xs here ns)))) (sym split) ∙ take_min k (spread xs here ns)

-- the topmost of the frames under the last one
pub lowest_left : (xs ys : List Frame) (below here : Frame) → xs ≡ ys ++ below ∷ [] → lowest ys below ≡ lowest xs here
lowest_left xs ys below here e = sym (ap (λ (z : List Frame). lowest z here) e ∙ lowest_open ys below here)

pub rises_under : (xs ys : List Frame) (below here : Frame) → xs ≡ ys ++ below ∷ [] → Rises xs here → Rises ys below
    × (below.below < here.below)
rises_under xs ys below here e r = rises_left ys below here (subst (λ (z : List Frame). Rises z here) e r)

-- the last of the items at the bottom
pub take_last : {A : Type 0} (xs : List A) (k : ℕ) (x : A) → 0 < k → k ≤ length xs → x ≡ get_or xs (k - 1) x
    → take k xs ≡ take (k - 1) xs ++ x ∷ []
take_last {A} xs k x l h e =
    let one : k - 1 + 1 ≡ k = omega (arith, l) in
    ap (λ (n : ℕ). take n xs) (sym one) ∙ take_more xs (k - 1) x (omega (arith, l, h)) ∙ ap (λ (y : A). take (k - 1) xs ++ y ∷ []) (sym e)
