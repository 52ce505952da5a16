-- Stacks as tasks: what is pushed, popped, cut and read downwards.
use Rattle.std.proofs.Common.{◌≡◌, ℕ, ◌+◌, ◌-◌, ◌<◌, ◌≤◌, List, [], ◌∷◌, ◌++◌, length, refl, ap, sym, ◌∙◌, append_assoc, append-nil, arith}
use Rattle.std.proofs.Common.{take, drop, get_or, length-append, length-drop}
use Rattle.std.proofs.lemmas.List.{map-append, take_all, take_more, drop_at, drop-append-le, nil_from_length, take-append-drop, length-take}
use Rattle.std.proofs.lemmas.List.{length-take-le}
use Rattle.prettyless_model.specs.Tree.{Tree}
use Rattle.prettyless_model.specs.Layout.{entry, next_indent}
use Rattle.prettyless_probe.specs.Frames.{framed, lowest, spread, Rises}
use Rattle.prettyless_probe.specs.Stack.{Task, make_task, downwards, task, framed_tasks, stack_of, follow, nodes, unread, IsCursor}
use Rattle.prettyless_probe.specs.declared.command.Command.{Command}
use Rattle.prettyless_probe.specs.declared.command.Frame.{Frame}
use Rattle.prettyless_probe.specs.declared.stack.Cursor.{Cursor}
use Rattle.prettyless_probe.specs.declared.stack.Stack.{Stack}
use Rattle.prettyless_probe.proofs.Frames.{spread-append, length-spread, spread_at, spread_open, spread_take, rises_under, take_last}

-- an item that is added at the end is the first task
pub downwards_push : {A : Type 0} (g : A → Task) (xs : List A) (x : A) → downwards g (xs ++ x ∷ []) ≡ g x ∷ downwards g xs
downwards_push g [] x = refl
downwards_push g (y ∷ xs) x = ap (λ (z : List Task). z ++ g y ∷ []) (downwards_push g xs x)

downwards-append : {A : Type 0} (g : A → Task) (xs ys : List A) → downwards g (xs ++ ys) ≡ downwards g ys ++ downwards g xs
downwards-append g [] ys = sym (append-nil (downwards g ys))
downwards-append g (x ∷ xs) ys = ap (λ (z : List Task). z ++ g x ∷ []) (downwards-append g xs ys) ∙ append_assoc (downwards g ys)
    (downwards g xs) (g x ∷ [])

-- the tasks of the last items, and then those of the first n
downwards_parts : {A : Type 0} (g : A → Task) (xs : List A) (n : ℕ) → downwards g xs ≡ downwards g (drop n xs) ++ downwards g (take n xs)
downwards_parts g xs n = sym (ap (downwards g) (take-append-drop n xs)) ∙ downwards-append g (take n xs) (drop n xs)

length-downwards : {A : Type 0} (g : A → Task) (xs : List A) → length (downwards g xs) ≡ length xs
length-downwards g [] = refl
length-downwards g (x ∷ xs) = omega (arith, length-append (downwards g xs) (g x ∷ []), length-downwards g xs)

-- ---- Nodes and frames

-- a node more
pub tasks_push : {N : Type 0} (f : N → Tree) (xs : List Frame) (here : Frame) (ns : List N) (n : N) → Rises xs here
    → here.below ≤ length ns →
    framed_tasks f xs here (ns ++ n ∷ []) ≡ make_task here.indent here.mode (f n) ∷ framed_tasks f xs here ns
tasks_push {N} f xs here ns n r l = ap (downwards (task f)) (spread-append xs here ns (n ∷ []) r l)
    ∙ downwards_push (task f) (spread xs here ns) (framed here n)

-- a frame that has no node
pub tasks_open : {N : Type 0} (f : N → Tree) (xs : List Frame) (below here : Frame) (ns : List N) → here.below ≡ length ns
    → framed_tasks f (xs ++ below ∷ []) here ns ≡ framed_tasks f xs below ns
tasks_open {N} f xs below here ns e = ap (downwards (task f)) (spread_open xs below here ns e)

-- ---- How many tasks there are

pub length-tasks : {N : Type 0} (f : N → Tree) (xs : List Frame) (here : Frame) (ns : List N) → lowest xs here ≡ 0 → Rises xs here
    → here.below ≤ length ns → length (framed_tasks f xs here ns) ≡ length ns
length-tasks {N} f xs here ns b r l = omega (arith, length-downwards (task f) (spread xs here ns), length-spread xs here ns r l, b)

pub no_tasks : {N : Type 0} (f : N → Tree) (xs : List Frame) (here : Frame) (ns : List N) → lowest xs here ≡ 0 → Rises xs here
    → here.below ≤ length ns → length ns ≡ 0 → framed_tasks f xs here ns ≡ []
no_tasks {N} f xs here ns b r l e = nil_from_length (framed_tasks f xs here ns) (omega (arith, length-tasks f xs here ns b r l, e))

-- a stack has a task for each of its nodes
pub length-stack_of : {N : Type 0} (f : N → Tree) (s : Stack N) → length (stack_of f s) ≡ length s.nodes.items
length-stack_of {N} f s = length-tasks f s.frames.items s.here s.nodes.items s.bottom s.rises (omega (arith, s.top, s.nodes.ok.0))

-- as many tasks are unread as nodes
pub length-unread : {N : Type 0} (f : N → Tree) (s : Stack N) (c : Cursor) → IsCursor s c → length (unread f s c) ≡ c.nodes
length-unread {N} f s c reads =
    let long = length-take-le c.nodes s.nodes.items reads.nodes in
    length-tasks f (take c.frames s.frames.items) c.here (take c.nodes s.nodes.items) reads.covers.bottom reads.covers.rises
    (omega (arith, reads.covers.top, long)) ∙ long

pub follow-append : (ts us : List Task) → follow (ts ++ us) ≡ follow ts ++ follow us
follow-append ts us = map-append (λ (t : Task). entry t.indent t.tree) ts us

pub nodes-append : (ts us : List Task) → nodes (ts ++ us) ≡ nodes ts + nodes us
nodes-append [] us = omega arith
nodes-append (t ∷ ts) us = omega (arith, nodes-append ts us)

-- ---- The top of a stack

-- work that is not all below begins with the top of the stack
pub split_top : (above below : List Task) (t : Task) (ts : List Task) → t ∷ ts ≡ above ++ below → length below ≤ length ts
    → (rest : List Task) × (above ≡ t ∷ rest) × (ts ≡ rest ++ below)
split_top [] below t ts e l = absurd (omega (arith, ap length e))
split_top (a ∷ rest) below t ts e l = (rest, (cc), (cc))

-- the frame below one that has no node
pub tasks_left : {N : Type 0} (f : N → Tree) (xs ys : List Frame) (below here : Frame) (ns : List N) → xs ≡ ys ++ below ∷ []
    → here.below ≡ length ns → framed_tasks f ys below ns ≡ framed_tasks f xs here ns
tasks_left {N} f xs ys below here ns e l = sym (ap (λ (z : List Frame). framed_tasks f z here ns) e ∙ tasks_open f ys below here ns l)

-- another frame in the place of one that has no node
pub tasks_at : {N : Type 0} (f : N → Tree) (xs : List Frame) (here other : Frame) (ns : List N) → here.below ≡ length ns
    → other.below ≡ here.below → framed_tasks f xs other ns ≡ framed_tasks f xs here ns
tasks_at {N} f xs here other ns l e = ap (downwards (task f)) (spread_at xs here other ns l e)

-- a node more, the last of some nodes
pub tasks_last : {N : Type 0} (f : N → Tree) (xs : List Frame) (here : Frame) (ns ms : List N) (n : N) → ns ≡ ms ++ n ∷ [] → Rises xs here
    → here.below ≤ length ms →
    framed_tasks f xs here ns ≡ make_task here.indent here.mode (f n) ∷ framed_tasks f xs here ms
tasks_last {N} f xs here ns ms n e r l = ap (framed_tasks f xs here) e ∙ tasks_push f xs here ms n r l

-- the indent of the last node, which is in the last frame
pub indent_here : {N : Type 0} (f : N → Tree) (xs : List Frame) (here : Frame) (ns : List N) (i : ℕ) → Rises xs here
    → here.below < length ns → here.indent ≡ next_indent i (follow (framed_tasks f xs here ns))
indent_here {N} f xs here [] i r l = absurd (omega (arith, l))
indent_here {N} f xs here (m ∷ ms) i r l =
    let ns : List N = m ∷ ms in
    let k : ℕ = length ns - 1 in
    let n : N = get_or ns k m in
    let whole : ns ≡ take k ns ++ n ∷ [] = sym (take_all (k + 1) ns (omega arith)) ∙ take_more ns k m (omega arith) in
    sym (ap (λ (z : List Task). next_indent i (follow z))
    (tasks_last f xs here ns (take k ns) n whole r (omega (arith, length-take k ns, l))))

-- the same where the last frame has no node
pub indent_below : {N : Type 0} (f : N → Tree) (xs : List Frame) (here g : Frame) (ns : List N) (i : ℕ) → Rises xs here
    → here.below ≡ length ns → 0 < length xs → g ≡ get_or xs (length xs - 1) g →
    g.indent ≡ next_indent i (follow (framed_tasks f xs here ns))
indent_below {N} f xs here g ns i r l h e =
    let k : ℕ = length xs - 1 in
    let whole : xs ≡ take k xs ++ g ∷ [] = sym (take_all (length xs) xs (omega arith)) ∙ take_last xs (length xs) g h (omega arith) e in
    let under = rises_under xs (take k xs) g here whole r in
    indent_here f (take k xs) g ns i under.0 (omega (arith, under.1, l)) ∙ ap (λ (z : List Task). next_indent i (follow z))
    (tasks_left f xs (take k xs) g here ns whole l)

-- ---- What is kept

-- what is below stays below, if enough commands are kept
downwards_kept : {N : Type 0} (f : N → Tree) (cs : List (Command N)) (k : ℕ) (above below : List Task)
    → downwards (task f) cs ≡ above ++ below → length below ≤ k → (rest : List Task) × (downwards (task f) (take k cs) ≡ rest ++ below)
downwards_kept {N} f cs k above below h l =
    let g : Command N → Task = task f in
    let off : List Task = downwards g (drop k cs) in
    let on : List Task = downwards g (take k cs) in
    let e : off ++ on ≡ above ++ below = sym (downwards_parts g cs k) ∙ h in
    let less : length off ≤ length above = omega (
      arith,
      length-downwards g (drop k cs),
      length-drop k cs,
      length-downwards g cs,
      ap length h,
      length-append above below,
      l,
    ) in (
      drop (length off) above,
      sym (drop_at off on (length off) refl) ∙ ap (drop (length off)) e ∙ drop-append-le (length off)
          above below less,
    )

-- The first k nodes are kept, and all frames: each of these has its nodes among them.
pub record KeepsFrames {N : Type 0} (xs : List Frame) (here : Frame) (ns : List N) (k : ℕ) : Type 0 where
  pub bottom : lowest xs here ≡ 0
  pub rises : Rises xs here
  pub within : here.below ≤ length ns
  pub kept : here.below ≤ k

pub stack_keeps : {N : Type 0} (s : Stack N) (k : ℕ) → s.here.below ≤ k → KeepsFrames s.frames.items s.here s.nodes.items k
stack_keeps {N} s k l = record { bottom = s.bottom; rises = s.rises; within = omega (arith, s.top, s.nodes.ok.0); kept = l }

kept_tasks : {N : Type 0} (f : N → Tree) {xs : List Frame} {here : Frame} {ns : List N} {k : ℕ} → KeepsFrames xs here ns k
    → framed_tasks f xs here (take k ns) ≡ downwards (task f) (take k (spread xs here ns))
kept_tasks {N} f {xs} {here} {ns} {k} h = ap (downwards (task f)) (spread_take xs here ns k h.bottom h.rises h.within h.kept)

pub kept_below : {N : Type 0} (f : N → Tree) {xs : List Frame} {here : Frame} {ns : List N} {k : ℕ} → KeepsFrames xs here ns k
    → (above below : List Task) → framed_tasks f xs here ns ≡ above ++ below → length below ≤ k → (rest : List Task)
    × (framed_tasks f xs here (take k ns) ≡ rest ++ below)
kept_below {N} f {xs} {here} {ns} {k} h above below e m =
    let w = downwards_kept f (spread xs here ns) k above below e m in (w.0, kept_tasks f h ∙ w.1)

pub kept_at_most : {N : Type 0} (f : N → Tree) {xs : List Frame} {here : Frame} {ns : List N} {k : ℕ} → KeepsFrames xs here ns k
    → length (framed_tasks f xs here (take k ns)) ≤ k
kept_at_most {N} f {xs} {here} {ns} {k} h =
    let part = length-take k ns in
    omega (arith, part, length-tasks f xs here (take k ns) h.bottom h.rises (omega (arith, part, h.within, h.kept)))

-- the tasks of the first n items are those at the bottom
downwards_take : {A : Type 0} (g : A → Task) (xs : List A) (n : ℕ) → n ≤ length xs
    → downwards g (take n xs) ≡ drop (length (downwards g xs) - n) (downwards g xs)
downwards_take g xs n l =
    let off : List Task = downwards g (drop n xs) in
    let on : List Task = downwards g (take n xs) in
    let k : ℕ = length (downwards g xs) - n in
    sym (ap (drop k) (downwards_parts g xs n)
    ∙ drop_at off on k (omega (arith, length-downwards g (drop n xs), length-drop n xs, length-downwards g xs, l)))

-- the nodes at the bottom, from the last frame on
pub tasks_bottom : {N : Type 0} (f : N → Tree) {xs : List Frame} {here : Frame} {ns : List N} {k : ℕ} → KeepsFrames xs here ns k
    → k ≤ length ns →
    framed_tasks f xs here (take k ns) ≡ drop (length (framed_tasks f xs here ns) - k) (framed_tasks f xs here ns)
tasks_bottom {N} f {xs} {here} {ns} {k} h m =
    kept_tasks f h ∙ downwards_take (task f) (spread xs here ns) k
    (omega (arith, length-spread xs here ns h.rises h.within, h.bottom, m))

-- what is taken off is above what is kept
pub tasks_above : {N : Type 0} (f : N → Tree) {xs : List Frame} {here : Frame} {ns : List N} {k : ℕ} → KeepsFrames xs here ns k
    → framed_tasks f xs here ns ≡ downwards (task f) (drop k (spread xs here ns)) ++ framed_tasks f xs here (take k ns)
tasks_above {N} f {xs} {here} {ns} {k} h =
    downwards_parts (task f) (spread xs here ns) k ∙ ap (λ (z : List Task). downwards (task f) (drop k (spread xs here ns)) ++ z)
    (sym (kept_tasks f h))

pub ruleset below_steps = (append_assoc, append-nil)
