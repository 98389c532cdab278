-- A SAK that our cards send is read as it was sent. Assumes nothing.
use Rattle.std.specs.Prelude.{◌≡◌, refl, Bool, true, false, cond, Ok}
use Rattle.rows.specs.Rows.{is_nil, clean, same}
use Rattle.parity.specs.Bits.{bits_of, unbits, ones, odd}
use Rattle.crc.specs.Crc.{shift, shifts, crc_byte, crc_from, crc_a, crc_bytes, with_crc}
use Rattle.frame.specs.Frame.{air_byte, standard, data_of, bytes_of, first_wrong, faulty}
use Rattle.selection.specs.Heard.{read_sak}
use Rattle.selection.specs.Selection.{sak_frame}

pub reads_more : read_sak (sak_frame 0x04) ≡ Ok 0x04
unfolding read_sak sak_frame standard air_byte with_crc crc_bytes crc_a crc_from crc_byte shifts shift bits_of unbits odd ones data_of bytes_of first_wrong faulty same clean is_nil
reads_more = refl

pub reads_last : (b : Bool) → read_sak (sak_frame (cond b 0x20 0x00)) ≡ Ok (cond b 0x20 0x00)
unfolding read_sak sak_frame standard air_byte with_crc crc_bytes crc_a crc_from crc_byte shifts shift bits_of unbits odd ones data_of bytes_of first_wrong faulty same clean is_nil
reads_last true = refl
reads_last false = refl

pub clean_more : clean (sak_frame 0x04) ≡ true
unfolding sak_frame standard air_byte with_crc crc_bytes crc_a crc_from crc_byte shifts shift bits_of odd ones clean
clean_more = refl

pub clean_last : (b : Bool) → clean (sak_frame (cond b 0x20 0x00)) ≡ true
unfolding sak_frame standard air_byte with_crc crc_bytes crc_a crc_from crc_byte shifts shift bits_of odd ones clean
clean_last true = refl
clean_last false = refl
