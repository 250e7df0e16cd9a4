-- Document 01, "Descriptors and one minor loop": the table's descriptors, what one pass moves and stores, and the major end. Assumes nothing.
use Rattle.std.specs.Prelude.{Bool, true, false, cond, not, ◌&&◌, ◌||◌, List, [], ◌++◌, ℕ, zero, suc, ◌+◌, ◌-◌, ◌*◌, ◌/◌, ◌%◌, ◌^◌, min, eqb}
use Rattle.rules.specs.declared.Tcd.{Tcd}
use Rattle.rules.specs.Act.{Act, done, nothing, stage, fetch, store, ask, change, when, window, table, ◌>>=◌, ◌>>◌, MAJORS}
use Rattle.rules.specs.Scalars.{CR, ERQ, INT, KICK}
use Rattle.rules.specs.Bytes.{bytes, number, part}
use Rattle.rules.specs.Words.{has, gain, lose, wrap32, signed, modulo_add, size_of, unit_of, wholes, linked, count_of, link_of, recount}

-- ---- csr bits

abbrev pub START : ℕ
START = 0

abbrev pub INTMAJOR : ℕ
INTMAJOR = 1

abbrev pub INTHALF : ℕ
INTHALF = 2

abbrev pub DREQ : ℕ
DREQ = 3

abbrev pub ESG : ℕ
ESG = 4

abbrev pub MAJORELINK : ℕ
MAJORELINK = 5

abbrev pub ACTIVE : ℕ
ACTIVE = 6

abbrev pub DONE : ℕ
DONE = 7

-- ---- descriptors: 32 big-endian bytes in the order of `Tcd`; channel c is at 32c

unfoldable pub tcd_of : List ℕ → Tcd
tcd_of b = record {
  saddr = number (part b 0x00 4);
  attr = number (part b 0x04 2);
  soff = number (part b 0x06 2);
  nbytes = number (part b 0x08 4);
  slast = number (part b 0x0C 4);
  daddr = number (part b 0x10 4);
  citer = number (part b 0x14 2);
  doff = number (part b 0x16 2);
  dlast = number (part b 0x18 4);
  biter = number (part b 0x1C 2);
  csr = number (part b 0x1E 2);
}

unfoldable pub tcd_bytes : Tcd → List ℕ
tcd_bytes t =
    bytes 4 t.saddr ++ bytes 2 t.attr ++ bytes 2 t.soff ++ bytes 4 t.nbytes ++ bytes 4 t.slast ++ bytes 4 t.daddr
    ++ bytes 2 t.citer ++ bytes 2 t.doff ++ bytes 4 t.dlast ++ bytes 2 t.biter ++ bytes 2 t.csr

unfoldable pub descriptor : ℕ → Act Tcd
descriptor ch = do
  b ← fetch table (32 * ch) 32
  done (tcd_of b)

-- a whole descriptor is four stores of 8 in rising order
unfoldable pub store_words : ℕ → ℕ → ℕ → ℕ → ℕ → Act (Unit {0})
store_words ch a b c d = do
  store table (32 * ch) 8 a
  store table (32 * ch + 8) 8 b
  store table (32 * ch + 16) 8 c
  store table (32 * ch + 24) 8 d

unfoldable pub store_whole : ℕ → List ℕ → Act (Unit {0})
store_whole ch b = store_words ch (number (part b 0 8)) (number (part b 8 8)) (number (part b 16 8)) (number (part b 24 8))

-- the two sizes, and the two modulos
unfoldable pub ssize : Tcd → ℕ
ssize t = size_of (t.attr / 2 ^ 8)

unfoldable pub dsize : Tcd → ℕ
dsize t = size_of t.attr

unfoldable pub smod : Tcd → ℕ
smod t = t.attr / 2 ^ 11 % 2 ^ 5

unfoldable pub dmod : Tcd → ℕ
dmod t = t.attr / 2 ^ 3 % 2 ^ 5

-- ---- minor bytes and offsets

-- minor offsets count only with CR bit 7 set, and bit 31 (source) or 30 (destination) of `nbytes`
unfoldable pub source_offset : ℕ → Tcd → Bool
source_offset cr t = has cr 7 && has t.nbytes 31

unfoldable pub dest_offset : ℕ → Tcd → Bool
dest_offset cr t = has cr 7 && has t.nbytes 30

-- zero becomes 2^30; all is capped at 2^22
unfoldable pub capped : ℕ → ℕ
capped n = min (cond (eqb n 0) (2 ^ 30) n) (2 ^ 22)

-- the byte count: the low 10 bits with a minor offset, otherwise the low 30
unfoldable pub minor_bytes : ℕ → Tcd → ℕ
minor_bytes cr t = capped (cond (source_offset cr t || dest_offset cr t) (t.nbytes % 2 ^ 10) (t.nbytes % 2 ^ 30))

-- the signed 20 bits 29..10
unfoldable pub minor_offset : Tcd → ℕ
minor_offset t = signed 20 (t.nbytes / 2 ^ 10 % 2 ^ 20)

-- added plainly without modulo, and not on the last minor loop
unfoldable pub offset : Bool → Tcd → ℕ → ℕ
offset on t a = cond (on && not (eqb (count_of t.citer) 1)) (wrap32 (a + minor_offset t)) a

-- ---- what is moved. A size moves in units at address + k x unit, plainly; only the step after each whole size uses modulo.

-- equal sizes: read and write unit by unit
unfoldable pub move_unit : ℕ → ℕ → ℕ → Act (Unit {0})
move_unit u a b = do
  v ← fetch window a u
  store window b u (number v)

-- in rising k: so many units of u bytes from s to d, the first of them number k
unfoldable pub move_units : ℕ → ℕ → ℕ → ℕ → ℕ → Act (Unit {0})
move_units zero k u s d = nothing
move_units (suc left) k u s d = do
  _ ← move_unit u (wrap32 (s + k * u)) (wrap32 (d + k * u))
  move_units left (suc k) u s d

-- n whole sizes; the two addresses after them
unfoldable pub move_sizes : ℕ → ℕ → ℕ → ℕ → ℕ → ℕ → ℕ → ℕ → Act (ℕ × ℕ)
move_sizes zero soff smod doff dmod size s d = done (s, d)
move_sizes (suc n) soff smod doff dmod size s d = do
  _ ← move_units (size / unit_of size) 0 (unit_of size) s d
  move_sizes n soff smod doff dmod size (modulo_add s soff smod) (modulo_add d doff dmod)

-- unequal sizes: what is read goes behind what was read before
unfoldable pub read_unit : ℕ → ℕ → List ℕ → Act (List ℕ)
read_unit u a got = do
  v ← fetch window a u
  done (got ++ v)

unfoldable pub read_units : ℕ → ℕ → ℕ → ℕ → List ℕ → Act (List ℕ)
read_units zero k u s got = done got
read_units (suc left) k u s got = do
  more ← read_unit u (wrap32 (s + k * u)) got
  read_units left (suc k) u s more

unfoldable pub read_sizes : ℕ → ℕ → ℕ → ℕ → ℕ → List ℕ → Act (ℕ × List ℕ)
read_sizes zero soff smod size s got = done (s, got)
read_sizes (suc n) soff smod size s got = do
  more ← read_units (size / unit_of size) 0 (unit_of size) s got
  read_sizes n soff smod size (modulo_add s soff smod) more

-- and is written from place o of it on
unfoldable pub write_units : ℕ → ℕ → ℕ → ℕ → List ℕ → ℕ → Act (Unit {0})
write_units zero k u d got o = nothing
write_units (suc left) k u d got o = do
  _ ← store window (wrap32 (d + k * u)) u (number (part got (o + k * u) u))
  write_units left (suc k) u d got o

unfoldable pub write_sizes : ℕ → ℕ → ℕ → ℕ → ℕ → List ℕ → ℕ → Act ℕ
write_sizes zero doff dmod size d got o = done d
write_sizes (suc n) doff dmod size d got o = do
  _ ← write_units (size / unit_of size) 0 (unit_of size) d got o
  write_sizes n doff dmod size (modulo_add d doff dmod) got (o + size)

-- read all first, rounding up to whole source sizes, then write only whole destination sizes
unfoldable pub move_unequal : ℕ → ℕ → ℕ → ℕ → ℕ → ℕ → ℕ → ℕ → ℕ → Act (ℕ × ℕ)
move_unequal reads soff smod doff dmod ssize dsize s d = do
  _ ← stage (reads * ssize)
  (s', got) ← read_sizes reads soff smod ssize s []
  d' ← write_sizes (reads * ssize / dsize) doff dmod dsize d got 0
  done (s', d')

-- the transfer of n bytes; the two addresses after it
unfoldable pub transfer : Tcd → ℕ → Act (ℕ × ℕ)
transfer t n =
    let soff = signed 16 t.soff in
    let doff = signed 16 t.doff in
    let reads = wholes n (ssize t) in
    cond (eqb (ssize t) (dsize t))
    (move_sizes reads soff (smod t) doff (dmod t) (ssize t) t.saddr t.daddr)
    (move_unequal reads soff (smod t) doff (dmod t) (ssize t) (dsize t) t.saddr t.daddr)

-- ---- links

-- that channel's START and KICK bit
unfoldable pub link : ℕ → Act (Unit {0})
link ch = do
  b ← fetch table (32 * ch + 0x1F) 1
  store table (32 * ch + 0x1F) 1 (gain (number b) START)
  change KICK (λ k. gain k ch)

-- a link of channel ch to another channel; a link to itself is ignored
unfoldable pub link_to : ℕ → Bool → ℕ → Act (Unit {0})
link_to ch on to = when (on && not (eqb to ch)) (link to)

-- ---- the major end

-- so many bytes from a on, one by one
unfoldable pub gather : ℕ → ℕ → List ℕ → Act (List ℕ)
gather zero a got = done got
gather (suc n) a got = do
  b ← fetch window (wrap32 a) 1
  gather n (a + 1) (got ++ b)

-- with ESG: 32 bytes from `dlast` replace the descriptor, and START in them sets KICK
unfoldable pub replaced : ℕ → List ℕ → Act (Unit {0})
replaced ch next = do
  store_whole ch next
  when (has (tcd_of next).csr START) (change KICK (λ k. gain k ch))

unfoldable pub load_next : ℕ → ℕ → Act (Unit {0})
load_next ch from = do
  next ← gather 32 from []
  replaced ch next

-- without: `slast` and `dlast` are added with modulo, count = `biter`, ACTIVE and START go, DONE comes
unfoldable pub wound : Tcd → Tcd
wound t = record {
  saddr = modulo_add t.saddr t.slast (smod t);
  attr = t.attr;
  soff = t.soff;
  nbytes = t.nbytes;
  slast = t.slast;
  daddr = modulo_add t.daddr t.dlast (dmod t);
  citer = t.biter;
  doff = t.doff;
  dlast = t.dlast;
  biter = t.biter;
  csr = gain (lose (lose t.csr ACTIVE) START) DONE;
}

unfoldable pub reload : ℕ → Tcd → Act (Unit {0})
reload ch t = cond (has t.csr ESG) (load_next ch t.dlast) (store_whole ch (tcd_bytes (wound t)))

-- INTMAJOR, DREQ
unfoldable pub flags : ℕ → ℕ → Act (Unit {0})
flags ch csr = do
  when (has csr INTMAJOR) (change INT (λ m. gain m ch))
  when (has csr DREQ) (change ERQ (λ m. lose m ch))

-- majors + 1; INTMAJOR, DREQ and the major link follow, all from the old `csr`
unfoldable pub major_end : ℕ → Act (Unit {0})
major_end ch = do
  t ← descriptor ch
  change (MAJORS ch) (λ n. (n + 1) % 2 ^ 64)
  reload ch t
  flags ch t.csr
  link_to ch (has t.csr MAJORELINK) (t.csr / 2 ^ 8 % 2 ^ 6)

-- ---- one pass

-- `csr` loses START and DONE, gains ACTIVE
unfoldable pub started : ℕ → ℕ
started csr = lose (gain (lose csr START) ACTIVE) DONE

-- in order: `saddr`, `daddr`, count, `csr` are stored
unfoldable pub minor_stores : ℕ → ℕ → ℕ → ℕ → ℕ → Act (Unit {0})
minor_stores ch s d citer csr = do
  store table (32 * ch) 4 s
  store table (32 * ch + 0x10) 4 d
  store table (32 * ch + 0x14) 2 citer
  store table (32 * ch + 0x1E) 2 csr

-- INTHALF sets the INT bit if the new count n equals half of `biter`'s count, rounded down, and that is not 0
unfoldable pub halfway : Tcd → ℕ → Bool
halfway t n = has t.csr INTHALF && eqb n (count_of t.biter / 2) && not (eqb (count_of t.biter / 2) 0)

-- new count 0 leads to the major end; otherwise a count link to another channel sets that START and KICK bit
unfoldable pub minor_end : ℕ → Tcd → ℕ → ℕ → Act (Unit {0})
minor_end ch t s d =
    let n = count_of t.citer - 1 in
    let citer = recount t.citer n in do
      minor_stores ch s d citer (started t.csr)
      when (halfway t n) (change INT (λ m. gain m ch))
      cond (eqb n 0) (major_end ch) (link_to ch (linked citer) (link_of citer))

-- one minor loop of a channel: does it answer yes. Count 0: nothing happens and the pass answers no
unfoldable pub pass : ℕ → Act Bool
pass ch = do
  t ← descriptor ch
  cr ← ask CR
  cond (eqb (count_of t.citer) 0)
      (done false)
      (do
        (s, d) ← transfer t (minor_bytes cr t)
        minor_end ch t (offset (source_offset cr t) t s) (offset (dest_offset cr t) t d)
        done true)

-- on an `unfolding` line: all the definitions of this file
unfoldable pub descriptors : Unit {0}
unfolding tcd_of tcd_bytes descriptor store_words store_whole ssize dsize smod dmod source_offset dest_offset capped minor_bytes minor_offset offset
descriptors = tt

unfoldable pub transfers : Unit {0}
unfolding move_unit move_units move_sizes read_unit read_units read_sizes write_units write_sizes move_unequal transfer
transfers = tt

unfoldable pub minor : Unit {0}
unfolding descriptors transfers link link_to gather replaced load_next wound reload flags major_end started minor_stores halfway minor_end pass
minor = tt
