-- What the contracts cite: first those of the public function, then those of the functions below it.
pub mod Form
pub mod Scan
